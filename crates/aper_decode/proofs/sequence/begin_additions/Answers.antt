use Rattle.std.proofs.Common.{◌≡◌, true, false, Ok, Err, refl, sym, subst, rules}
use Rattle.std.proofs.lemmas.Result.{err_from_is_err_and}
use Rattle.aper_defs.specs.Asking.{ask_marks}
use Rattle.aper_cursor.specs.asking.Going.{GoesOnOrMemory}
use Rattle.aper_decode.proofs.SequenceSteps.{marks_refused, additions_begun, additions_none}
use Rattle.aper_decode.proofs.sequence.begin_additions.Goals as goal

pub returns-then-not-components-clause-asked : goal.returns-then-not-components-clause-asked
returns-then-not-components-clause-asked c =
    let none : c.args.components.extended ≡ false = search rules in
    additions_none c.args.components c.args.frames.now c.args.cursor.now c.args.cursor.now c.components.result c.new.result.items none
    c.new.ensures.items c.components.ensures

pub returns-in_err-there-clause-asked : goal.returns-in_err-there-clause-asked
returns-in_err-there-clause-asked c =
    let p = err_from_is_err_and c.from_residual.result c.from_residual.ensures.1 in
    let e = c.in_err-there.field-0.0 in
    let some : c.args.components.extended ≡ true = search rules in
    rw (p.1, p.2) (
    marks_refused c.args.components c.args.frames.now c.args.cursor.now c.ask_marks.new.cursor e
    (subst (λ b. GoesOnOrMemory (λ way. ask_marks way b) c.args.cursor.now c.ask_marks.new.cursor (Err e)) (sym some)
    (c.in_err-there.ensures {u = tt}).asked))

pub returns-clause-asked : goal.returns-clause-asked
returns-clause-asked c =
    let from = c.args.components in
    let some : c.args.components.extended ≡ true = search rules in
    additions_begun from c.args.frames.now c.args.cursor.now c.ask_marks.new.cursor c.in_ok-there.there
    (record { left = from.additions; there = c.new-2.result; made = c.new-3.result; root = from.made })
    c.next_addition.new.cursor c.next_addition.new.frames c.next_addition.result refl refl c.new-2.ensures c.new-3.ensures.items
    (subst (λ b. GoesOnOrMemory (λ way. ask_marks way b) c.args.cursor.now c.ask_marks.new.cursor (Ok c.in_ok-there.there)) (sym some)
    (c.in_ok-there.ensures {u = tt}).asked)
    c.next_addition.ensures.asked
