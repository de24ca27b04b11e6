-- Octets of which none was there.
use Rattle.std.proofs.Common.{◌≡◌, ℕ, List, [], ◌++◌, Err, sym, ap, ◌∙◌}
use Rattle.aper_defs.specs.Fields.{Path}
use Rattle.aper_defs.specs.Questions.{Prog}
use Rattle.aper_defs.specs.Reading.{Cursor, run}
use Rattle.aper_cursor.specs.declared.error.Unanswered.{Unanswered}
use Rattle.aper_cursor.specs.declared.error.Unanswered.TheVariants.{Wrong, Memory}
use Rattle.aper_cursor.specs.asking.Going.{GoesOnOrMemory, PutsOn}

pub refused_first : (Q : Path → (List ℕ → Prog) → Prog) (old new : Cursor) (e : Unanswered) (before after : List ℕ)
    → before ≡ [] → PutsOn Q old new before after (Err e) → GoesOnOrMemory Q old new (Err e)
refused_first Q old new (Wrong reason) before after e h =
    λ p K. sym (ap (λ (os : List ℕ). run (Q p (λ us. K (os ++ us))) old) e) ∙ h p K
refused_first Q old new Memory before after e h = tt
