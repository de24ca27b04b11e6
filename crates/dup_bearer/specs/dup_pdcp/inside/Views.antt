-- Internal: the entity as contracts see it, from what the code keeps; and what its inner calls do.
use Rattle.std.specs.Prelude.{◌≡◌, ℕ, ◌<◌, ◌≤◌, Bool, List, [], ◌∷◌, ◌++◌, length, Option, Some, None, Result, Ok, Err}
use Rattle.std.specs.List.{AllByRecursion}
use Rattle.gnb_types.specs.declared.names.SnBits.{SnBits}
use Rattle.pdcp.specs.declared.pdu.TheConstants.{PACKET_LIMIT}
use Rattle.dup_defs.specs.declared.types.error.DupError.{DupError}
use Rattle.dup_bearer.specs.declared.dup_pdcp.ending.DupEnding.{DupEnding}
use Rattle.dup_bearer.specs.declared.dup_pdcp.ending.DupEnding.TheVariants as endings
use Rattle.dup_defs.specs.declared.types.leg.Mode.{Mode}
use Rattle.dup_defs.specs.declared.types.put.Put.{Put}
use Rattle.dup_defs.specs.Senders.{DupSender, DupPut, DupNumbers, gives, spends, puts_first, puts_of, number_waiting}
use Rattle.unit_messages.specs.declared.steps.StepError.{StepError}
use Rattle.unit_messages.specs.declared.steps.StepError.TheVariants as steps
use Rattle.pdcp_bearers.specs.ue_bearers.Senders.{SenderState}
use Rattle.pdcp_bearers.specs.declared.ue_bearers.sender.Counted.{Counted}
use Rattle.dup_bearer.specs.dup_pdcp.Entity.{DupTxState, IsPut, puts_of_code, error_of}
use Rattle.dup_bearer.specs.declared.dup_pdcp.tx.Place.{Place}

-- the mode, and which legs are up
pub record Marks : Type 0 where
  pub mode : Mode
  pub first : Bool
  pub second : Bool

abbrev pub marks : Mode → Bool → Bool → Marks
marks mode first second = record { mode = mode; first = first; second = second }

abbrev pub sender_state : SenderState → Marks → DupSender
sender_state packets m =
    record { sender = packets.sender; waiting = packets.waiting; mode = m.mode; first_up = m.first; second_up = m.second }

abbrev pub tx_state : SnBits → ℕ → SenderState → Marks → Option DupEnding → DupTxState
tx_state n most packets m ended = record { sn = n; quota = most; entity = sender_state packets m; ended = ended }

-- out of memory nothing is known of the packets
abbrev pub IsDupTx : SnBits → ℕ → SenderState → Option DupEnding → Type 0
IsDupTx n most packets ended = ended ≡ None → (packets.sn ≡ n) × (packets.quota ≡ most)

abbrev pub with_entity : DupTxState → DupSender → DupTxState
with_entity s entity = record s { entity = entity }

-- what an inner call comes to, in an entity that goes on
abbrev pub IsGiven : DupNumbers → DupTxState → DupTxState → Result (List Put) DupEnding → Type 0
IsGiven numbers old new (Ok puts) =
    (numbers ≡ gives (puts_of_code old.sn puts) new.entity) × AllByRecursion (IsPut old.sn) puts × (new ≡ with_entity old new.entity)
IsGiven numbers old new (Err endings.Spent) = numbers ≡ spends
IsGiven numbers old new (Err endings.Memory) = Unit {0}

-- why there are no puts is remembered
abbrev pub IsKept : Result (List Put) DupEnding → DupTxState → DupTxState → Result (List Put) DupError → Type 0
IsKept (Ok puts) old new result = (result ≡ Ok puts) × (new ≡ old)
IsKept (Err ending) old new result = (result ≡ Err (error_of ending)) × (new.ended ≡ Some ending)

-- these were put after the others
pub record PutsMore (sn : SnBits) (old new : List Put) (more : List DupPut) : Type 0 where
  pub puts : puts_of_code sn new ≡ puts_of_code sn old ++ more
  pub are : AllByRecursion (IsPut sn) old → AllByRecursion (IsPut sn) new

-- what a bearer takes: 1 to 2,048 octets
abbrev pub IsPacket : List ℕ → Type 0
IsPacket packet = (1 ≤ length packet) × (length packet ≤ PACKET_LIMIT)

-- a packet that is put
abbrev pub put_at : Place → List ℕ → DupPut
put_at place packet = record { leg = place.leg; count = place.count; packet = packet }

-- The packet that waits longest got the next COUNT: it is put, and the rest is numbered. Or nothing is numbered, or the last COUNT was given.
abbrev pub IsNumbered : DupTxState → DupTxState → Result (Option Counted) DupEnding → Type 0
IsNumbered old new (Ok (Some d)) =
    (number_waiting old.sn old.quota old.entity
    ≡ puts_first (puts_of new.entity ((d.count, d.packet) ∷ [])) (number_waiting old.sn old.quota new.entity))
    × (new ≡ with_entity old new.entity) × IsPacket d.packet × (length new.entity.waiting < length old.entity.waiting)
IsNumbered old new (Ok None) = (number_waiting old.sn old.quota old.entity ≡ gives [] old.entity) × (new ≡ old)
IsNumbered old new (Err endings.Spent) = number_waiting old.sn old.quota old.entity ≡ spends
IsNumbered old new (Err endings.Memory) = ⊥

-- what an uplink answers
abbrev pub counted_of : Result (Option Counted) StepError → Result (Option Counted) DupEnding
counted_of (Ok counted) = Ok counted
counted_of (Err (steps.Spent counter)) = Err endings.Spent
counted_of (Err steps.Memory) = Err endings.Memory
