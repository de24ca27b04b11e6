-- The uplink of a bearer: the sending entity (TS 38.323, 5.2.1) and the packets that wait for a COUNT.
use Rattle.std.specs.Prelude.{◌≡◌, ℕ, ◌+◌, ◌-◌, ◌^◌, ◌<◌, ◌≤◌, Bool, not, nat_lt, nat_le, if◌then◌else◌, List, [], ◌∷◌, length, filter, Option, Some, None, Result, Ok, Err}
use Rattle.std.specs.Borrow.{Bor}
use Rattle.gnb_types.specs.declared.names.SnBits.{SnBits}
use Rattle.pdcp.specs.Near.{last_count}
use Rattle.pdcp.specs.Pdus.{radio_data}
use Rattle.pdcp_defs.specs.Senders.{Sender, new_sender, has_room, numbered, restored}
use Rattle.pdcp_entities.specs.declared.tx.NumberError.{NumberError}
use Rattle.pdcp_entities.specs.declared.tx.NumberError.TheVariants as refusals
use Rattle.unit_defs.specs.Ways.{counts_spent}
use Rattle.unit_messages.specs.declared.steps.StepError.{StepError}
use Rattle.unit_messages.specs.declared.steps.StepError.TheVariants as errors
use Rattle.pdcp_bearers.specs.declared.ue_bearers.sender.Counted.{Counted}
use Rattle.pdcp_bearers.specs.declared.ue_bearers.sender.Numbered.{Numbered}

pub record SenderState : Type 0 where
  pub sn : SnBits
  pub quota : ℕ
  pub sender : Sender (List ℕ)
  pub waiting : List (List ℕ)

abbrev pub new_sender_state : SnBits → ℕ → SenderState
new_sender_state sn quota = record { sn = sn; quota = quota; sender = new_sender 0; waiting = [] }

-- what a bearer takes: 1 to 2,048 octets
abbrev pub IsPacket : List ℕ → Type 0
IsPacket packet = (1 ≤ length packet) × (length packet ≤ 2048)

-- how many packets it has
abbrev pub used : SenderState → ℕ
used u = length u.sender.unconfirmed + length u.waiting

-- ---- the packet that gets the next COUNT

pub data Numbering : Type 0 where
  numbers : (count : ℕ) (packet : List ℕ) (after : SenderState) → Numbering
  -- no packet waits, or the window is full
  stays : Numbering
  -- the last COUNT was given
  ends : Numbering

abbrev pub numbering_of : SenderState → List (List ℕ) → Numbering
numbering_of u [] = stays
numbering_of u (packet ∷ packets) =
    if not (has_room u.sn u.quota u.sender) then stays else
    (if nat_lt last_count u.sender.next then ends else
    numbers u.sender.next packet (record u { sender = numbered u.sender packet; waiting = packets }))

abbrev pub numbering : SenderState → Numbering
numbering u = numbering_of u u.waiting

-- an entity's refusal: only the last COUNT is an error
abbrev pub refusal : NumberError → Result (Option Counted) StepError
refusal refusals.CountSpent = Err (errors.Spent counts_spent)
refusal error = Ok None

-- the packet with its COUNT
abbrev pub IsCounting : Numbering → SenderState → SenderState → Result (Option Counted) StepError → Type 0
IsCounting n old new (Ok (Some d)) = (n ≡ numbers d.count d.packet new) × IsPacket d.packet
IsCounting n old new (Ok None) = (n ≡ stays) × (new ≡ old)
IsCounting n old new (Err (errors.Spent counter)) = (n ≡ ends) × (counter ≡ counts_spent) × (new ≡ old)
IsCounting n old new (Err errors.Memory) = ⊥

-- its PDU with its COUNT
abbrev pub IsNumbering : SnBits → Numbering → SenderState → SenderState → Result (Option Numbered) StepError → Type 0
IsNumbering sn n old new (Ok (Some d)) = (packet : List ℕ) × (n ≡ numbers d.count packet new) × (d.pdu ≡ radio_data sn d.count packet)
IsNumbering sn n old new (Ok None) = (n ≡ stays) × (new ≡ old)
IsNumbering sn n old new (Err (errors.Spent counter)) = (n ≡ ends) × (counter ≡ counts_spent)
IsNumbering sn n old new (Err errors.Memory) = Unit {0}

-- ---- a packet that another entity numbered

abbrev pub restoring : SenderState → ℕ → List ℕ → Bool → SenderState
restoring u count packet held = if held then record u { sender = restored u.sender count packet } else u

-- ---- what nothing confirmed, from a COUNT on

abbrev pub from_on : ℕ → List (ℕ × List ℕ) → List (ℕ × List ℕ)
from_on from es = filter (λ e. nat_le from e.0) es

-- the first of them; another is above it
abbrev pub IsLeastFrom : ℕ → List (ℕ × List ℕ) → Option (ℕ × Bor (List ℕ)) → Type 0
IsLeastFrom from es (Some e) = (from_on from es ≡ (e.0, e.1.now) ∷ from_on (e.0 + 1) es) × IsPacket e.1.now × (e.0 < 2 ^ 32 - 1)
IsLeastFrom from es None = from_on from es ≡ []
