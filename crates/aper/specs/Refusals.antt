-- What a refusal of octets says.
use Rattle.std.specs.Prelude.{◌≡◌, ℕ, List, Result, Ok, Err}
use Rattle.aper_defs.specs.declared.reason.Reason.{Reason}
use Rattle.aper_defs.specs.Trees.{Tree}
use Rattle.aper_defs.specs.Values as seen
use Rattle.aper_defs.specs.Fields.{Path}
use Rattle.aper_defs.specs.Spelling.{Spells}
use Rattle.aper_defs.specs.Reading.{decoded}
use Rattle.aper_defs.specs.loose_defs.Wrong.{WrongAt}
use Rattle.aper_defs.specs.loose_defs.Sets.{LeavesIds}
use Rattle.aper_values.specs.declared.value.Value.{Value}
use Rattle.aper.specs.declared.error.DecodeError.{DecodeError}
use Rattle.aper.specs.declared.error.DecodeError.TheVariants.{Refused, Memory}
use Rattle.aper.specs.PathText.{path_text}

-- The octets are refused at a bit, for a reason, on the way to a value: they spell no value of the type, and there they go wrong first,
-- by the loose layouts of the type. (These speak of types of which each set leaves an id.)
pub record IsRefused (t : Tree) (octets : List ℕ) (bit : ℕ) (reason : Reason) (path : List ℕ) : Type 0 where
  pub no_value : (v : seen.Value) → Spells t v octets → ⊥
  pub goes_wrong : LeavesIds t
      → (way : Path) × WrongAt t octets (record { bit = bit; reason = reason; path = way }) × (path ≡ path_text way)

-- The questions of the type find the first wrong field there.
abbrev pub IsFirstWrong : Tree → List ℕ → ℕ → Reason → List ℕ → Type 0
IsFirstWrong t octets bit reason path =
    (way : Path) × (decoded t octets ≡ Err (record { bit = bit; reason = reason; path = way })) × (path ≡ path_text way)

-- what a refusal says
abbrev pub OnRefusal : Result Value DecodeError → (ℕ → Reason → List ℕ → Type 0) → Type 0
OnRefusal (Ok value) P = Unit {0}
OnRefusal (Err (Refused bit reason path)) P = P bit reason path
OnRefusal (Err Memory) P = Unit {0}
