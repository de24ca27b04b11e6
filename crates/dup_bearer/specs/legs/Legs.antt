-- The two legs as contracts of code see them: the items of a leg are those of the definitions.
use Rattle.std.specs.Prelude.{◌≡◌, ℕ, ◌+◌, ◌^◌, ◌<◌, ◌≤◌, List, [], ◌∷◌, ◌++◌, length, Option, Some, None}
use Rattle.std.specs.List.{AllByRecursion}
use Rattle.pdcp.specs.declared.pdu.TheConstants.{PACKET_LIMIT}
use Rattle.dup_defs.specs.declared.types.leg.Leg.{Leg}
use Rattle.dup_defs.specs.declared.types.leg.Leg.TheVariants as legs
use Rattle.dup_defs.specs.dup_run_defs.Run.{LegItems, no_items}

-- what a bearer takes: 1 to 2,048 octets
abbrev pub IsPacket : List ℕ → Type 0
IsPacket packet = (1 ≤ length packet) × (length packet ≤ PACKET_LIMIT)

abbrev pub ArePackets : List (ℕ × List ℕ) → Type 0
ArePackets es = AllByRecursion (λ e. IsPacket e.1) es

-- there are fewer than 2^32, and those to be carried have packets
pub record AreItems (carried : List ℕ) (coming : List (ℕ × List ℕ)) : Type 0 where
  pub few : length carried + length coming < 2 ^ 32
  pub packets : ArePackets coming

abbrev pub items_state : List ℕ → List (ℕ × List ℕ) → LegItems
items_state carried coming = record { carried = carried; coming = coming }

pub record LegsState : Type 0 where
  pub first : LegItems
  pub second : LegItems

abbrev pub legs_state : LegItems → LegItems → LegsState
legs_state first second = record { first = first; second = second }

abbrev pub no_legs : LegsState
no_legs = legs_state no_items no_items

abbrev pub leg_of : Leg → LegsState → LegItems
leg_of legs.First s = s.first
leg_of legs.Second s = s.second

abbrev pub with_leg : Leg → LegItems → LegsState → LegsState
with_leg legs.First items s = record s { first = items }
with_leg legs.Second items s = record s { second = items }

-- the oldest item that wasn't carried was, if there is one
abbrev pub CarriesOne : LegItems → LegItems → Option (ℕ × List ℕ) → Type 0
CarriesOne old new None = (old.coming ≡ []) × (new ≡ old)
CarriesOne old new (Some e) = (old.coming ≡ e ∷ new.coming) × (new.carried ≡ old.carried ++ e.0 ∷ []) × IsPacket e.1

-- the oldest item that was carried has left, if there is one
abbrev pub ConfirmsOne : LegItems → LegItems → Option ℕ → Type 0
ConfirmsOne old new None = (old.carried ≡ []) × (new ≡ old)
ConfirmsOne old new (Some count) = (old.carried ≡ count ∷ new.carried) × (new.coming ≡ old.coming)
