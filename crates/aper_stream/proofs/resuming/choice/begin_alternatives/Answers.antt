use Rattle.std.proofs.Common.{◌-◌, length, ◌∙◌, arith}
use Rattle.std.proofs.lemmas.Result.{err_from_is_err_and}
use Rattle.std.specs.Prelude.{option_copied}
use Rattle.aper_defs.specs.Values as seen
use Rattle.aper_defs.specs.Questions.{ask_index}
use Rattle.aper_frames.specs.Frames.{path_of, next_of}
use Rattle.proof_aper.proofs.followed.Told.{told_index}
use Rattle.aper_frames.proofs.aper_elements.ChoiceLemmas.{got, whole_choice, after_index, choice_as, root_next, added_next, added_as}
use Rattle.aper_frames.proofs.aper_elements.Weighing.{part_at, part_got}
use Rattle.aper_stream.proofs.resuming.Leading.{answered_on, wrong_on}
use Rattle.aper_stream.proofs.resuming.choice.begin_alternatives.Goals as goal

pub returns-in_err-index-clause-asked : goal.returns-in_err-index-clause-asked
returns-in_err-index-clause-asked c =
    let fs = c.args.frames.now in
    let root = c.args.root.now in
    let adds = c.args.additions.now in
    let e = c.args.extensible in
    let p = err_from_is_err_and c.from_residual.result c.from_residual.ensures.1 in
    rw (p.1, p.2) (
    wrong_on (λ p. ask_index p (length root) e) (whole_choice e root adds fs)
    (λ of. after_index of root adds (path_of fs) (next_of of fs)) fs
    (λ of. choice_as of e root adds (path_of fs) (next_of of fs)) c.args.cursor.now c.ask_index.new.cursor c.in_err-index.field-0.0
    (c.in_err-index.ensures {u = tt}).asked)

pub returns-in_ok-begin_root : goal.returns-in_ok-begin_root
returns-in_ok-begin_root c =
    let fs = c.args.frames.now in
    let root = c.args.root.now in
    let adds = c.args.additions.now in
    let e = c.args.extensible in
    let i = c.in_ok-index.index in
    let begun = c.in_ok-begin_root.ensures {u = tt} in
    record {
      asked = answered_on (λ p. ask_index p (length root) e) (whole_choice e root adds fs)
          (λ of. after_index of root adds (path_of fs) (next_of of fs)) fs
          (λ of. choice_as of e root adds (path_of fs) (next_of of fs)) c.args.cursor.now c.ask_index.new.cursor
          (told_index (length root) e) i c.in_ok-begin_root.field-0 c.begin_root.new.frames (c.in_ok-index.ensures {u = tt}).asked
          (λ of. root_next of root adds (path_of fs) (next_of of fs) i c.index-root-index.result c.if-index-count.true c.index-root-index.is
          ∙ begun.asked of);
      lighter = λ w. omega (arith, part_at w root i c.index-root-index.result c.if-index-count.true c.index-root-index.is, begun.lighter w);
      kept = tt;
    }

pub returns-else-index-count : goal.returns-else-index-count
returns-else-index-count c =
    let fs = c.args.frames.now in
    let root = c.args.root.now in
    let adds = c.args.additions.now in
    let e = c.args.extensible in
    let i = c.in_ok-index.index in
    let at = got adds (i - length root) c.get.result c.get.ensures.lookup.0 c.get.ensures.lookup.1 in
    record {
      asked = answered_on (λ p. ask_index p (length root) e) (whole_choice e root adds fs)
          (λ of. after_index of root adds (path_of fs) (next_of of fs)) fs
          (λ of. choice_as of e root adds (path_of fs) (next_of of fs)) c.args.cursor.now c.ask_index.new.cursor
          (told_index (length root) e) i c.begin_added.result fs (c.in_ok-index.ensures {u = tt}).asked
          (λ of. added_next of root adds (path_of fs) (next_of of fs) i c.if-index-count.false
          ∙ added_as of (path_of fs) adds (i - length root) (option_copied c.get.result) (λ v. next_of of fs (seen.chosen i v)) at
          ∙ c.begin_added.ensures.asked fs of);
      lighter = λ w. omega (arith, part_got w adds (i - length root) (option_copied c.get.result) at, c.begin_added.ensures.lighter w);
      kept = tt;
    }
