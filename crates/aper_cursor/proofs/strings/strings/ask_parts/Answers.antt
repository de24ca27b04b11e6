use Rattle.std.proofs.Common.{◌≡◌, ◌+◌, ◌-◌, ◌≤◌, length, ◌∙◌, arith}
use Rattle.std.proofs.lemmas.Result.{err_from_is_err_and}
use Rattle.aper_defs.specs.Questions.{ask_units, ask_all_parts}
use Rattle.aper_cursor.specs.strings.Contents.{content_of}
use Rattle.aper_cursor.proofs.strings.Onward.{refused_after}
use Rattle.aper_cursor.proofs.strings.Turns.{after_part, length_wrong, units_there, last_part, further_part}
use Rattle.aper_cursor.proofs.strings.strings.ask_parts.Goals as goal

pub returns-in_err-count : goal.returns-in_err-count
returns-in_err-count c =
    let l = c.loop-turn in
    let len : c.len.result ≡ length l.out.items = omega (arith, c.len.ensures, l.out.ok) in
    let p = err_from_is_err_and c.from_residual.result c.from_residual.ensures.1 in
    rw (p.1, p.2) (λ way K. l.invariant.asked way K
    ∙ length_wrong (content_of c.args.content) c.args.outside l.turn c.len.result l.previous l.out.items l.cursor c.ask_aligned.new.cursor
    c.loop-turn-test.true len c.in_err-count.field-0.0 (c.in_err-count.ensures {u = tt}).asked way K)

pub returns-in_err-ask_units : goal.returns-in_err-ask_units
returns-in_err-ask_units c =
    let l = c.loop-turn in
    let len : c.len.result ≡ length l.out.items = omega (arith, c.len.ensures, l.out.ok) in
    let n = c.in_ok-count.count in
    let content = content_of c.args.content in
    let p = err_from_is_err_and c.from_residual-in_err-ask_units.result c.from_residual-in_err-ask_units.ensures.1 in
    rw (p.1, p.2) (refused_after (λ way. ask_all_parts way content c.args.outside) (λ way. ask_units way content n)
    c.args.cursor.now c.ask_aligned.new.cursor c.ask_units.new.cursor c.args.out.now.items l.out.items
    c.in_err-ask_units.field-0.0 c.ask_units.new.out.items c.ask_units.new.out.items
    (λ way K. after_part way content c.args.outside (64 - l.turn) (length l.out.items) K n)
    (λ way K. l.invariant.asked way K
    ∙ units_there content c.args.outside l.turn c.len.result l.previous l.out.items l.cursor c.ask_aligned.new.cursor
    c.loop-turn-test.true len n (c.in_ok-count.ensures {u = tt}).asked way K)
    (c.in_err-ask_units.ensures {u = tt}).asked)

pub returns-then-count-lt-PART_UNITS : goal.returns-then-count-lt-PART_UNITS
returns-then-count-lt-PART_UNITS c =
    let l = c.loop-turn in
    let len : c.len.result ≡ length l.out.items = omega (arith, c.len.ensures, l.out.ok) in
    λ way K. l.invariant.asked way K
    ∙ last_part (content_of c.args.content) c.args.outside l.turn c.len.result l.previous l.out.items l.cursor c.ask_aligned.new.cursor
    c.loop-turn-test.true len c.in_ok-count.count (c.in_ok-count.ensures {u = tt}).asked
    c.ask_units.new.out.items c.ask_units.new.cursor (c.in_ok-ask_units.ensures {u = tt}).asked c.if-count-lt-PART_UNITS.true way K

pub loop-turn-preserved : goal.loop-turn-preserved
loop-turn-preserved c =
    let l = c.loop-turn in
    let len : c.len.result ≡ length l.out.items = omega (arith, c.len.ensures, l.out.ok) in
    let n = c.in_ok-count.count in
    let right = c.in_ok-count.ensures {u = tt} in
    let put = c.in_ok-ask_units.ensures {u = tt} in
    let size : length c.ask_units.new.out.items ≡ length l.out.items + n = put.size in
    let many : 16384 ≤ n = c.if-count-lt-PART_UNITS.false in
    let most : n ≤ 65536 = right.answer in
    let on : c.ask_aligned.new.cursor.place + n ≤ c.ask_units.new.cursor.place = put.on in
    record {
      asked = λ way K. l.invariant.asked way K
          ∙ further_part (content_of c.args.content) c.args.outside l.turn c.len.result l.previous l.out.items l.cursor
          c.ask_aligned.new.cursor c.loop-turn-test.true len n right.asked
          c.ask_units.new.out.items c.ask_units.new.cursor put.asked many size way K;
      few = omega (arith, size, most, l.invariant.few);
      on = omega (arith, on, many, right.on, l.invariant.on);
      limit = λ h. put.limit (omega (arith, many));
    }
