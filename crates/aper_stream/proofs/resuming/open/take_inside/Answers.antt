use Rattle.std.proofs.Common.{◌∷◌, refl, sym, ap, subst, ◌∙◌}
use Rattle.aper_defs.specs.Fields.{opening, closing, end}
use Rattle.aper_defs.specs.Questions.{ask, ask_aligned}
use Rattle.aper_defs.specs.Asking.{asks}
use Rattle.aper_cursor.specs.asking.Going.{GoesOnOrMemory}
use Rattle.aper_frames.specs.declared.frame.Frame.TheVariants as frames
use Rattle.aper_frames.specs.Frames.{inside_of, after, path_of, next_of}
use Rattle.proof_aper.proofs.followed.Told.{told_aligned}
use Rattle.aper_stream.specs.declared.resuming.pending.Pending.TheVariants as pendings
use Rattle.aper_stream.specs.resuming.Turns.{left}
use Rattle.aper_stream.proofs.resuming.Leading.{turn_on}
use Rattle.aper_stream.proofs.resuming.open.take_inside.Goals as goal

pub returns-in_ok-push-in-Ok-2-clause-asked : goal.returns-in_ok-push-in-Ok-2-clause-asked
returns-in_ok-push-in-Ok-2-clause-asked c =
    let fs = c.args.frames.now in
    let f = c.args.frame in
    let id = c.args.definition in
    turn_on (λ p. ask_aligned p opening) (pendings.Inside f id)
    (λ of n. asks (inside_of f (path_of fs)) (of id.number) (λ v. ask (inside_of f (path_of fs)) closing
    (λ m. ask (inside_of f (path_of fs)) end (λ z. after of f (path_of fs) (next_of of fs) v)))) fs (λ of. refl)
    c.args.cursor.now c.ask_opening.new.cursor (told_aligned opening) c.in-Ok.field-0 (pendings.Read id) c.push-in-Ok.new.self
    (subst (GoesOnOrMemory (λ p. ask_aligned p opening) c.args.cursor.now c.ask_opening.new.cursor) c.in-Ok.is c.ask_opening.ensures)
    (λ of. ap (λ gs. left of (pendings.Read id) gs)
    (sym (c.in_ok-push-in-Ok-2.ensures {u = tt} ∙ ap (λ gs. frames.Open ∷ gs) (c.in_ok-push-in-Ok.ensures {u = tt}))))
