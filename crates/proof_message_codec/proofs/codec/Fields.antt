-- What a field's type says of its value: the bounds of a number, and the bits of SN statuses.
use Rattle.std.proofs.Common.{◌≡◌, ℕ, suc, ◌≤◌, Bool, true, false, ◌∷◌, length, refl, ◌&&◌, arith}
use Rattle.std.specs.Prelude.{codes, pos, negsuc, ◌||◌, nat_le}
use Rattle.std.specs.List.{AllByRecursion}
use Rattle.aper_defs.specs.Trees.{integer}
use Rattle.aper_defs.specs.Values.{Value, Values, number, bits, components, list, no_values, value, no_options, absent, present}
use Rattle.aper_defs.specs.Fields.{Path}
use Rattle.aper_defs.specs.Fields as fields
use Rattle.aper_defs.specs.Numbers.{in_range}
use Rattle.aper_defs.specs.Membership.{Has, HasComponents, EachFrom}
use Rattle.proof_aper.proofs.answers.NumberFacts.{at_most, first_of_both, second_of_both}
use Rattle.message_defs.specs.profile_defs.Forms.{Components, component, no_components, bit_string, sized, tree, parts}
use Rattle.message_defs.specs.profile_defs.BaseTypes as types
use Rattle.message_defs.specs.profile_defs.Compounds as compounds
use Rattle.message_defs.specs.Fields.{to_number, to_each, to_status, to_statuses}
use Rattle.unit_defs.specs.codec_range_defs.Ranges.{IsShortStatus}

differ : (let b : Bool = false in b) ≡ true → ⊥
differ h = cc

or_false : (b : Bool) → (b || false) ≡ true → b ≡ true
or_false true h = refl
or_false false h = cc

between : (low high n : ℕ) → (nat_le low n && nat_le n high) ≡ true → (low ≤ n) × (n ≤ high)
between low high n h =
    (at_most low n (first_of_both (nat_le low n) (nat_le n high) h), at_most n high (second_of_both (nat_le low n) (nat_le n high) h))

module _ (p : Path) where
  number_in : (low high : ℕ) (v : Value) → Has p (integer (pos low) (pos high) false) v → (low ≤ to_number v) × (to_number v ≤ high)
  unfolding Has
  number_in low high (number (pos n)) h = between low high n (or_false (in_range (pos low) (pos high) (pos n)) h)
  number_in low high (number (negsuc n)) h = absurd (differ h)
  number_in low high v h = absurd h

  pub bearers_in : (v : Value) → Has p (tree types.bearer) v → (1 ≤ to_number v) × (to_number v ≤ 8)
  unfolding tree
  bearers_in v h = number_in 1 8 v h

  pub quota_in : (v : Value) → Has p (tree types.quota) v → (4 ≤ to_number v) × (to_number v ≤ 4096)
  unfolding tree
  quota_in v h = number_in 4 4096 v h

-- ---- SN statuses
-- the last component of a status
abbrev received_part : Components
received_part = component (codes "ulReceived") true (bit_string (sized 1 4096)) no_components

none_short : (n : ℕ) → 0 ≤ n
none_short n = omega arith

module _ (p : Path) where
  status_short : (v : Value) → Has p (tree compounds.status) v → IsShortStatus (to_status v)
  unfolding tree parts Has HasComponents
  status_short (components (present b (present d (present u (absent no_options)))) more) h = none_short 4096
  status_short (components (present b (present d (present u (present (bits bs) no_options)))) more) h =
      (between 1 4096 (length bs) (or_false (nat_le 1 (length bs) && nat_le (length bs) 4096) h.0.1.1.1.0)).1
  status_short (components (present b (present d (present u (present (bits bs) (absent vs))))) more) h = absurd h.0.1.1.1.1
  status_short (components (present b (present d (present u (present (bits bs) (present v vs))))) more) h = absurd h.0.1.1.1.1
  status_short v h = none_short 4096

all_short : (p : Path) (i : ℕ) (vs : Values) → EachFrom (λ i v. Has (fields.member i ∷ p) (tree compounds.status) v) i vs
    → AllByRecursion IsShortStatus (to_each to_status vs)
all_short p i no_values h = tt
all_short p i (value v vs) h = (status_short (fields.member i ∷ p) v h.0, all_short p (suc i) vs h.1)

pub statuses_short : (p : Path) (v : Value) → Has p (tree compounds.statuses) v → AllByRecursion IsShortStatus (to_statuses v)
unfolding tree Has
statuses_short p (list vs) h = all_short p 0 vs h.1
statuses_short p v h = absurd h
