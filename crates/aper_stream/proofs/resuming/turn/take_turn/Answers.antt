use Rattle.std.proofs.Common.{sym, subst}
use Rattle.std.proofs.lemmas.Result.{err_from_is_err_and}
use Rattle.aper_values.specs.types.Types.{tree}
use Rattle.aper_stream.specs.declared.resuming.pending.Pending.{Pending}
use Rattle.aper_stream.specs.declared.resuming.pending.Pending.TheVariants as pendings
use Rattle.aper_stream.specs.resuming.Turns.{TakesTurn, Lessens}
use Rattle.aper_stream.proofs.resuming.Endings.{turn_stopped, turn_taken}
use Rattle.aper_stream.proofs.resuming.turn.take_turn.Goals as goal

pub returns-in_err-take_marks-in-Marks-clause-asked : goal.returns-in_err-take_marks-in-Marks-clause-asked
returns-in_err-take_marks-in-Marks-clause-asked c =
    let fs = c.args.frames.now in
    let wrong = c.in_err-take_marks-in-Marks in
    let from = c.from_residual-in_err-take_marks-in-Marks in
    let p = err_from_is_err_and from.result from.ensures.1 in
    rw (p.1, p.2) (
    turn_stopped (tree c.args.m.now) c.args.pending (pendings.Marks c.in-Marks.components) c.in-Marks.is c.args.cursor.now
    c.take_marks.new.cursor fs fs wrong.field-0.0
    (wrong.ensures {u = tt}).asked)

pub returns-in_err-take_head-in-Head-clause-asked : goal.returns-in_err-take_head-in-Head-clause-asked
returns-in_err-take_head-in-Head-clause-asked c =
    let fs = c.args.frames.now in
    let wrong = c.in_err-take_head-in-Head in
    let from = c.from_residual-in_err-take_head-in-Head in
    let p = err_from_is_err_and from.result from.ensures.1 in
    rw (p.1, p.2) (
    turn_stopped (tree c.args.m.now) c.args.pending (pendings.Head c.in-Head.elements) c.in-Head.is c.args.cursor.now
    c.take_head.new.cursor fs fs wrong.field-0.0
    (wrong.ensures {u = tt}).asked)

pub returns-in_err-take_inside-in-Inside-clause-asked : goal.returns-in_err-take_inside-in-Inside-clause-asked
returns-in_err-take_inside-in-Inside-clause-asked c =
    let fs = c.args.frames.now in
    let wrong = c.in_err-take_inside-in-Inside in
    let from = c.from_residual-in_err-take_inside-in-Inside in
    let p = err_from_is_err_and from.result from.ensures.1 in
    rw (p.1, p.2) (
    turn_stopped (tree c.args.m.now) c.args.pending (pendings.Inside c.in-Inside.frame c.in-Inside.definition) c.in-Inside.is
    c.args.cursor.now c.take_inside.new.cursor fs c.take_inside.new.frames wrong.field-0.0
    (wrong.ensures {u = tt}).asked)

pub returns-in_err-take_length-in-Unknown-clause-asked : goal.returns-in_err-take_length-in-Unknown-clause-asked
returns-in_err-take_length-in-Unknown-clause-asked c =
    let fs = c.args.frames.now in
    let wrong = c.in_err-take_length-in-Unknown in
    let from = c.from_residual-in_err-take_length-in-Unknown in
    let p = err_from_is_err_and from.result from.ensures.1 in
    rw (p.1, p.2) (
    turn_stopped (tree c.args.m.now) c.args.pending (pendings.Unknown c.in-Unknown.frame) c.in-Unknown.is c.args.cursor.now
    c.take_length.new.cursor fs c.take_length.new.frames wrong.field-0.0
    (wrong.ensures {u = tt}).asked)

pub returns-in_err-take_octets-in-Octets-clause-asked : goal.returns-in_err-take_octets-in-Octets-clause-asked
returns-in_err-take_octets-in-Octets-clause-asked c =
    let fs = c.args.frames.now in
    let wrong = c.in_err-take_octets-in-Octets in
    let from = c.from_residual-in_err-take_octets-in-Octets in
    let p = err_from_is_err_and from.result from.ensures.1 in
    rw (p.1, p.2) (
    turn_stopped (tree c.args.m.now) c.args.pending (pendings.Octets c.in-Octets.count) c.in-Octets.is c.args.cursor.now
    c.take_octets.new.cursor fs fs wrong.field-0.0
    (wrong.ensures {u = tt}).asked)

pub returns-in_err-take_end-in-Closing-clause-asked : goal.returns-in_err-take_end-in-Closing-clause-asked
returns-in_err-take_end-in-Closing-clause-asked c =
    let fs = c.args.frames.now in
    let wrong = c.in_err-take_end-in-Closing in
    let from = c.from_residual-in_err-take_end-in-Closing in
    let p = err_from_is_err_and from.result from.ensures.1 in
    rw (p.1, p.2) (
    turn_stopped (tree c.args.m.now) c.args.pending (pendings.Closing c.in-Closing.value) c.in-Closing.is c.args.cursor.now
    c.take_end.new.cursor fs fs wrong.field-0.0
    (wrong.ensures {u = tt}).asked)

pub returns-in-Ending-clause-asked : goal.returns-in-Ending-clause-asked
returns-in-Ending-clause-asked c =
    let fs = c.args.frames.now in
    subst (λ (x : Pending). TakesTurn (tree c.args.m.now) x c.args.cursor.now c.take_ending.new.cursor fs fs c.take_ending.result)
    (sym c.in-Ending.is) (c.take_ending.ensures.asked (tree c.args.m.now))

pub returns-in-Ending-clause-lighter : goal.returns-in-Ending-clause-lighter
returns-in-Ending-clause-lighter c =
    let fs = c.args.frames.now in
    subst (λ (x : Pending). Lessens c.args.m.now x fs fs c.take_ending.result) (sym c.in-Ending.is)
    (c.take_ending.ensures.lighter c.args.m.now)

pub returns-in_ok-take_marks-in-Marks-clause-asked : goal.returns-in_ok-take_marks-in-Marks-clause-asked
returns-in_ok-take_marks-in-Marks-clause-asked c =
    let fs = c.args.frames.now in
    let taken = c.in_ok-take_marks-in-Marks in
    turn_taken (tree c.args.m.now) c.args.pending (pendings.Marks c.in-Marks.components) c.in-Marks.is
    c.args.cursor.now c.take_marks.new.cursor fs fs taken.field-0 (taken.ensures {u = tt}).asked

pub returns-in_ok-take_head-in-Head-clause-asked : goal.returns-in_ok-take_head-in-Head-clause-asked
returns-in_ok-take_head-in-Head-clause-asked c =
    let fs = c.args.frames.now in
    let taken = c.in_ok-take_head-in-Head in
    turn_taken (tree c.args.m.now) c.args.pending (pendings.Head c.in-Head.elements) c.in-Head.is
    c.args.cursor.now c.take_head.new.cursor fs fs taken.field-0 (taken.ensures {u = tt}).asked

pub returns-in_ok-take_inside-in-Inside-clause-asked : goal.returns-in_ok-take_inside-in-Inside-clause-asked
returns-in_ok-take_inside-in-Inside-clause-asked c =
    let fs = c.args.frames.now in
    let taken = c.in_ok-take_inside-in-Inside in
    turn_taken (tree c.args.m.now) c.args.pending (pendings.Inside c.in-Inside.frame c.in-Inside.definition) c.in-Inside.is
    c.args.cursor.now c.take_inside.new.cursor fs c.take_inside.new.frames taken.field-0 (taken.ensures {u = tt}).asked

pub returns-in_ok-take_length-in-Unknown-clause-asked : goal.returns-in_ok-take_length-in-Unknown-clause-asked
returns-in_ok-take_length-in-Unknown-clause-asked c =
    let fs = c.args.frames.now in
    let taken = c.in_ok-take_length-in-Unknown in
    turn_taken (tree c.args.m.now) c.args.pending (pendings.Unknown c.in-Unknown.frame) c.in-Unknown.is
    c.args.cursor.now c.take_length.new.cursor fs c.take_length.new.frames taken.field-0 (taken.ensures {u = tt}).asked

pub returns-in_ok-take_octets-in-Octets-clause-asked : goal.returns-in_ok-take_octets-in-Octets-clause-asked
returns-in_ok-take_octets-in-Octets-clause-asked c =
    let fs = c.args.frames.now in
    let taken = c.in_ok-take_octets-in-Octets in
    turn_taken (tree c.args.m.now) c.args.pending (pendings.Octets c.in-Octets.count) c.in-Octets.is
    c.args.cursor.now c.take_octets.new.cursor fs fs taken.field-0 (taken.ensures {u = tt}).asked

pub returns-in_ok-take_end-in-Closing-clause-asked : goal.returns-in_ok-take_end-in-Closing-clause-asked
returns-in_ok-take_end-in-Closing-clause-asked c =
    let fs = c.args.frames.now in
    let taken = c.in_ok-take_end-in-Closing in
    turn_taken (tree c.args.m.now) c.args.pending (pendings.Closing c.in-Closing.value) c.in-Closing.is
    c.args.cursor.now c.take_end.new.cursor fs fs taken.field-0 (taken.ensures {u = tt}).asked
