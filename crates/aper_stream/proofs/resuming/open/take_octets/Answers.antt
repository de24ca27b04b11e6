use Rattle.std.proofs.Common.{ℕ, List, ◌++◌, Err, refl, sym, ap, subst, ◌∙◌}
use Rattle.aper_defs.specs.Values as seen
use Rattle.aper_defs.specs.Fields.{octet}
use Rattle.aper_defs.specs.Questions.{take}
use Rattle.aper_defs.specs.Reading.{run}
use Rattle.aper_cursor.specs.Questions.{unit_of}
use Rattle.aper_cursor.specs.declared.questions.RunUnit.TheVariants as units
use Rattle.aper_cursor.specs.asking.Going.{PutsOn}
use Rattle.aper_frames.proofs.heads.RawTurns.{refused_first}
use Rattle.aper_frames.specs.Frames.{next_of}
use Rattle.proof_aper.proofs.followed.Told.{told_take}
use Rattle.aper_stream.specs.declared.resuming.pending.Pending.TheVariants as pendings
use Rattle.aper_stream.specs.declared.resuming.pending.Stopped.{Stopped}
use Rattle.aper_stream.specs.resuming.Turns.{Turns}
use Rattle.aper_stream.proofs.resuming.Leading.{turn_on, turn_refused}
use Rattle.aper_stream.proofs.resuming.open.take_octets.Goals as goal

pub returns-in-Err-clause-asked : goal.returns-in-Err-clause-asked
returns-in-Err-clause-asked c =
    let fs = c.args.frames.now in
    let n : ℕ = c.args.count in
    let old = c.args.cursor.now in
    let new = c.ask_run.new.cursor in
    subst (λ (s : Stopped). Turns (pendings.Octets n) old new fs fs (Err s)) (sym c.handed_back.ensures)
    (turn_refused (λ p. take p octet n) (pendings.Octets n) (λ of os. next_of of fs (seen.raw os)) fs (λ of. refl) old new c.in-Err.error
    (refused_first (λ p. take p octet n) old new c.in-Err.error c.new-octets.result.items c.ask_run.new.out.items c.new-octets.ensures.items
    (subst (PutsOn (λ p. take p (unit_of units.Octet) n) old new c.new-octets.result.items c.ask_run.new.out.items) c.in-Err.is
    c.ask_run.ensures.asked)))

pub returns-clause-asked : goal.returns-clause-asked
returns-clause-asked c =
    let fs = c.args.frames.now in
    let n : ℕ = c.args.count in
    let old = c.args.cursor.now in
    let new = c.ask_run.new.cursor in
    let put = subst (PutsOn (λ p. take p (unit_of units.Octet) n) old new c.new-octets.result.items c.ask_run.new.out.items) c.in-Ok.is
    c.ask_run.ensures.asked in
    turn_on (λ p. take p octet n) (pendings.Octets n) (λ of os. next_of of fs (seen.raw os)) fs (λ of. refl) old new (told_take octet n)
    c.ask_run.new.out.items (pendings.Made c.raw.result) fs
    (λ p K. sym (ap (λ (os : List ℕ). run (take p octet n (λ us. K (os ++ us))) old) c.new-octets.ensures.items) ∙ put p K)
    (λ of. ap (λ (os : List ℕ). next_of of fs (seen.raw os)) (sym c.from_vec.ensures) ∙ ap (next_of of fs) (sym c.raw.ensures))
