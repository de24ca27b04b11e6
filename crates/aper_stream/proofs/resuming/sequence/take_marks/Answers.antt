use Rattle.std.proofs.Common.{Err, refl, sym, subst}
use Rattle.aper_defs.specs.Asking.{ask_marks}
use Rattle.aper_cursor.specs.asking.Going.{GoesOnOrMemory}
use Rattle.aper_stream.specs.declared.resuming.pending.Pending.TheVariants as pendings
use Rattle.aper_stream.specs.declared.resuming.pending.Stopped.{Stopped}
use Rattle.aper_stream.specs.resuming.Turns.{Turns}
use Rattle.aper_stream.proofs.resuming.Sequences.{marks_refused, marks_taken}
use Rattle.aper_stream.proofs.resuming.sequence.take_marks.Goals as goal

pub returns-in-Err-clause-asked : goal.returns-in-Err-clause-asked
returns-in-Err-clause-asked c =
    let fs = c.args.frames.now in
    let from = c.args.components in
    subst (λ (s : Stopped). Turns (pendings.Marks from) c.args.cursor.now c.ask_marks.new.cursor fs fs (Err s)) (sym c.handed_back.ensures)
    (marks_refused from fs c.args.cursor.now c.ask_marks.new.cursor c.in-Err.error
    (subst (GoesOnOrMemory (λ p. ask_marks p from.extended) c.args.cursor.now c.ask_marks.new.cursor) c.in-Err.is
    c.ask_marks.ensures.asked))

pub returns-clause-asked : goal.returns-clause-asked
returns-clause-asked c =
    let fs = c.args.frames.now in
    let from = c.args.components in
    marks_taken from fs c.args.cursor.now c.ask_marks.new.cursor c.in-Ok.there
    (record { left = from.additions; there = c.new.result; made = c.new-in-Ok.result; root = from.made })
    c.in_ok-next_addition-in-Ok.field-0
    refl refl c.new.ensures c.new-in-Ok.ensures.items
    (subst (GoesOnOrMemory (λ p. ask_marks p from.extended) c.args.cursor.now c.ask_marks.new.cursor) c.in-Ok.is c.ask_marks.ensures.asked)
    (c.in_ok-next_addition-in-Ok.ensures {u = tt}).asked
