use Rattle.std.proofs.Common.{refl, subst}
use Rattle.aper_cursor.specs.asking.Going.{GoesOn}
use Rattle.aper_values.specs.Views.{view}
use Rattle.aper_frames.specs.Frames.{next_of}
use Rattle.aper_stream.specs.declared.resuming.pending.Pending.TheVariants as pendings
use Rattle.aper_stream.proofs.resuming.Leading.{turn_on, turn_wrong}
use Rattle.aper_stream.proofs.resuming.Heads.{ask_end, told_end}
use Rattle.aper_stream.proofs.resuming.open.take_end.Goals as goal

pub returns-in-Err-clause-asked : goal.returns-in-Err-clause-asked
returns-in-Err-clause-asked c =
    let fs = c.args.frames.now in
    turn_wrong ask_end (pendings.Closing c.args.value) (λ of u. next_of of fs (view c.args.value)) fs (λ of. refl)
    c.args.cursor.now c.ask_closing.new.cursor c.in-Err.reason
    (subst (GoesOn ask_end c.args.cursor.now c.ask_closing.new.cursor) c.in-Err.is c.ask_closing.ensures)

pub returns-in-Ok-clause-asked : goal.returns-in-Ok-clause-asked
returns-in-Ok-clause-asked c =
    let fs = c.args.frames.now in
    turn_on ask_end (pendings.Closing c.args.value) (λ of u. next_of of fs (view c.args.value)) fs (λ of. refl)
    c.args.cursor.now c.ask_closing.new.cursor told_end tt (pendings.Made c.args.value) fs
    (subst (GoesOn ask_end c.args.cursor.now c.ask_closing.new.cursor) c.in-Ok.is c.ask_closing.ensures) (λ of. refl)
