-- The octets of a value of a module's type.
use Rattle.std.proofs.Common.{◌≡◌, ℕ, ◌<◌, List, []}
use Rattle.std.specs.Prelude.{All}
use Rattle.asn1_syntax.specs.declared.assignments.assignment.Syntax.{Syntax}
use Rattle.asn1_defs.specs.Modules.{IsModule}
use Rattle.aper_defs.specs.Values.{Value}
use Rattle.aper_defs.specs.Bits.{octet_count}
use Rattle.aper_defs.specs.Membership.{Has}
use Rattle.aper_defs.specs.Spelling.{Spells, spelling_limit, whole_layout}
use Rattle.aper_defs.specs.octet_defs.Octets.{spelled_as}
use Rattle.aper_values.specs.types.Types.{tree}
use Rattle.aper_values.proofs.types.Bounded.{tree_bounded}
use Rattle.proof_aper.proofs.octets.Spelled.{spelled_is, nothing_is_no_value, nothing_is_too_long}

-- its types are within the bounds of encodings, as the module was read
module _ (m : Syntax) (n : ℕ) (v : Value) (is : IsModule m) where
  pub octets_are : (octets : List ℕ) → All (λ o. o < 256) octets → Spells (tree m n) v octets → octets ≡ spelled_as (tree m n) v
  octets_are = spelled_is (tree m n) v (tree_bounded m n is)

  pub none_of_no_value : (Has [] (tree m n) v → ⊥) → [] ≡ spelled_as (tree m n) v
  none_of_no_value = nothing_is_no_value (tree m n) v (tree_bounded m n is)

  pub none_too_long : spelling_limit < octet_count (whole_layout (tree m n) v) → [] ≡ spelled_as (tree m n) v
  none_too_long = nothing_is_too_long (tree m n) v (tree_bounded m n is)
