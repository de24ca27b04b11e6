use Rattle.std.proofs.Common.{ℕ, ◌+◌, ◌-◌, length, arith}
use Rattle.std.proofs.lemmas.Result.{err_from_is_err_and}
use Rattle.std.specs.Prelude.{Some, option_copied}
use Rattle.aper_frames.specs.Weights.{part_weight, choice_weight, frames_weight}
use Rattle.aper_frames.proofs.Lighter.{lighter_than}
use Rattle.aper_frames.proofs.aper_elements.ChoiceLemmas.{got, choice_wrong, choice_root, choice_added}
use Rattle.aper_frames.proofs.aper_elements.Weighing.{part_at, part_got}
use Rattle.aper_frames.proofs.aper_elements.choice.begin_alternatives.Goals as goal

pub returns-in_err-index : goal.returns-in_err-index
returns-in_err-index c =
    let p = err_from_is_err_and c.from_residual.result c.from_residual.ensures.1 in
    rw (p.1, p.2) (record {
      asked = choice_wrong c.args.extensible c.args.root.now c.args.additions.now c.args.frames.now c.args.cursor.now c.ask_index.new.cursor
          c.in_err-index.field-0.0 (c.in_err-index.ensures {u = tt}).asked;
      lighter = tt;
    })

pub returns-then-index-count : goal.returns-then-index-count
returns-then-index-count c = record {
  asked = choice_root c.args.extensible c.args.root.now c.args.additions.now c.args.frames.now c.args.cursor.now c.ask_index.new.cursor
      c.ask_index.new.cursor c.begin_root.new.frames c.begin_root.result c.in_ok-index.index (c.in_ok-index.ensures {u = tt}).asked
      c.index-root-index.result c.if-index-count.true c.index-root-index.is (c.begin_root.ensures.asked c.ask_index.new.cursor);
  lighter = lighter_than c.begin_root.result c.begin_root.new.frames
      (λ w. part_weight w (Some c.index-root-index.result) + frames_weight w c.args.frames.now)
      (λ w. choice_weight w c.args.root.now c.args.additions.now + frames_weight w c.args.frames.now)
      (λ w. omega (arith, part_at w c.args.root.now c.in_ok-index.index c.index-root-index.result c.if-index-count.true c.index-root-index.is))
      c.begin_root.ensures.lighter;
}

pub returns-else-index-count : goal.returns-else-index-count
returns-else-index-count c =
    let i : ℕ = c.in_ok-index.index - length c.args.root.now in
    let at = got c.args.additions.now i c.get.result c.get.ensures.lookup.0 c.get.ensures.lookup.1 in
    record {
      asked = choice_added c.args.extensible c.args.root.now c.args.additions.now c.args.frames.now c.args.cursor.now c.ask_index.new.cursor
          c.begin_added.new.cursor c.begin_added.new.frames c.begin_added.result c.in_ok-index.index (c.in_ok-index.ensures {u = tt}).asked
          (option_copied c.get.result) c.if-index-count.false at c.begin_added.ensures.asked;
      lighter = lighter_than c.begin_added.result c.begin_added.new.frames
          (λ w. part_weight w (option_copied c.get.result) + 3 + frames_weight w c.args.frames.now)
          (λ w. choice_weight w c.args.root.now c.args.additions.now + frames_weight w c.args.frames.now)
          (λ w. omega (arith, part_got w c.args.additions.now i (option_copied c.get.result) at)) c.begin_added.ensures.lighter;
    }
