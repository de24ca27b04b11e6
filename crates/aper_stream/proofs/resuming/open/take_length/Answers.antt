use Rattle.std.proofs.Common.{refl, sym, ap, subst}
use Rattle.std.specs.Prelude.{None}
use Rattle.aper_defs.specs.Values as seen
use Rattle.aper_defs.specs.Fields.{extent, whole, octet}
use Rattle.aper_defs.specs.Questions.{ask_aligned, take}
use Rattle.aper_cursor.specs.asking.Going.{GoesOn}
use Rattle.aper_frames.specs.Frames.{inside_of, after, path_of, next_of}
use Rattle.proof_aper.proofs.followed.Told.{told_aligned}
use Rattle.aper_stream.specs.declared.resuming.pending.Pending.TheVariants as pendings
use Rattle.aper_stream.specs.resuming.Turns.{left}
use Rattle.aper_stream.proofs.resuming.Leading.{turn_on}
use Rattle.aper_stream.proofs.resuming.open.take_length.Goals as goal

pub returns-in_ok-push-in-Ok-clause-asked : goal.returns-in_ok-push-in-Ok-clause-asked
returns-in_ok-push-in-Ok-clause-asked c =
    let fs = c.args.frames.now in
    let f = c.args.frame in
    turn_on (λ p. ask_aligned p (extent (whole 1 16383 None))) (pendings.Unknown f)
    (λ of n. take (inside_of f (path_of fs)) octet n (λ os. after of f (path_of fs) (next_of of fs) (seen.raw os))) fs (λ of. refl)
    c.args.cursor.now c.ask_aligned.new.cursor (told_aligned (extent (whole 1 16383 None))) c.in-Ok.count (pendings.Octets c.in-Ok.count)
    c.push.new.self
    (subst (GoesOn (λ p. ask_aligned p (extent (whole 1 16383 None))) c.args.cursor.now c.ask_aligned.new.cursor) c.in-Ok.is
    c.ask_aligned.ensures.asked)
    (λ of. ap (λ gs. left of (pendings.Octets c.in-Ok.count) gs) (sym (c.in_ok-push-in-Ok.ensures {u = tt})))
