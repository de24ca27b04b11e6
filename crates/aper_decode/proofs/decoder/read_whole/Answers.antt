use Rattle.std.proofs.Common.{◌≡◌, true, false, Err, sym, ap, ◌∙◌, rules}
use Rattle.std.proofs.lemmas.Result.{err_from_is_err_and}
use Rattle.aper_defs.specs.declared.reason.Reason.TheVariants as reasons
use Rattle.aper_cursor.specs.asking.Going.{fault_at}
use Rattle.aper_values.specs.types.Types.{tree}
use Rattle.aper_frames.specs.Frames.{path_of}
use Rattle.aper_decode.proofs.Turns.{closes_wrong, closes, leaves_tail}
use Rattle.aper_decode.proofs.decoder.read_whole.Goals as goal

pub returns-in_err-closing : goal.returns-in_err-closing
returns-in_err-closing c =
    let from = c.from_residual-in_err-closing in
    let p = err_from_is_err_and from.result from.ensures.1 in
    let read = c.in_ok-value.ensures {u = tt} in
    let wrong = c.in_err-closing.ensures {u = tt} in
    let reason = c.in_err-closing.field-0.0 in
    rw (p.1, p.2) (
    closes_wrong (tree c.args.m.now c.args.id.number) c.in_ok-value.value c.args.cursor.now c.read_value.new.cursor c.closing.new.self
    read.0 reason wrong.0 wrong.1
    ∙ ap (λ fs. Err (fault_at c.closing.new.self reason (path_of fs))) (sym read.1))

pub returns-then-not-is_at_end : goal.returns-then-not-is_at_end
returns-then-not-is_at_end c =
    let read = c.in_ok-value.ensures {u = tt} in
    let right = c.in_ok-closing.ensures {u = tt} in
    let ends : c.is_at_end.result ≡ false = search rules in
    leaves_tail (tree c.args.m.now c.args.id.number) c.in_ok-value.value c.args.cursor.now c.read_value.new.cursor c.closing.new.self
    read.0 c.in_ok-closing.field-0 right.0 right.1 (sym c.is_at_end.ensures ∙ ends)
    ∙ ap (λ fs. Err (fault_at c.closing.new.self reasons.Tail (path_of fs))) (sym read.1)

pub returns : goal.returns
returns c =
    let read = c.in_ok-value.ensures {u = tt} in
    let right = c.in_ok-closing.ensures {u = tt} in
    let ends : c.is_at_end.result ≡ true = search rules in
    closes (tree c.args.m.now c.args.id.number) c.in_ok-value.value c.args.cursor.now c.read_value.new.cursor c.closing.new.self
    read.0 c.in_ok-closing.field-0 right.0 right.1 (sym c.is_at_end.ensures ∙ ends)
