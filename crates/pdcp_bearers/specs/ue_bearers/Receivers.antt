-- The downlink of a bearer: the receiving entity (TS 38.323, 5.2.2).
use Rattle.std.specs.Prelude.{◌≡◌, ℕ, ◌+◌, ◌-◌, ◌^◌, ◌<◌, ◌≤◌, if◌then◌else◌, List, [], ◌∷◌, length, Option, Some, None, Result, Ok, Err}
use Rattle.std.specs.Borrow.{Bor}
use Rattle.gnb_types.specs.declared.names.SnBits.{SnBits}
use Rattle.pdcp_defs.specs.Receivers.{Receiver, new_receiver, is_duplicate, is_ahead, stored, deliver, with_packet}
use Rattle.pdcp_entities.specs.declared.rx.Taken.{Taken}
use Rattle.pdcp_entities.specs.declared.rx.Ahead.{Ahead}
use Rattle.pdcp_bearers.specs.ue_bearers.Senders.{from_on}
use Rattle.pdcp_bearers.specs.declared.ue_bearers.receiver.Reception.{Reception}
use Rattle.pdcp_bearers.specs.declared.ue_bearers.receiver.Reception.TheVariants as receptions
use Rattle.pdcp_bearers.specs.declared.ue_bearers.receiver.Delivered.{Delivered}

pub record ReceiverState : Type 0 where
  pub sn : SnBits
  pub quota : ℕ
  pub receiver : Receiver (List ℕ)

abbrev pub new_receiver_state : SnBits → ℕ → ReceiverState
new_receiver_state sn quota = record { sn = sn; quota = quota; receiver = new_receiver 0 }

-- what the entity's answer is for the bearer
abbrev pub reception_of : Result Taken Ahead → Reception
reception_of (Ok t) = if t.stored then receptions.Stored else receptions.Duplicate
reception_of (Err e) = receptions.Ahead

-- a packet of this COUNT, if one was found, is taken
abbrev pub received : ReceiverState → Option ℕ → List ℕ → Reception × ReceiverState
received d None packet = (receptions.Duplicate, d)
received d (Some count) packet =
    if is_duplicate d.receiver count then (receptions.Duplicate, d) else
    (if is_ahead d.quota d.receiver count then (receptions.Ahead, d) else
    (receptions.Stored, record d { receiver = stored d.receiver count packet }))

-- the first packet of what is to be delivered, or that there is none
abbrev pub IsDelivered : ReceiverState → ReceiverState → Option Delivered → Type 0
IsDelivered old new (Some d) =
    (new ≡ record old { receiver = new.receiver })
    × (deliver old.receiver ≡ with_packet (d.count, d.packet) (deliver new.receiver))
    × (length new.receiver.stored < length old.receiver.stored)
IsDelivered old new None = (new ≡ old) × (deliver old.receiver ≡ record { packets = []; after = old.receiver })

-- the first packet that is stored from a COUNT on; another is above it
abbrev pub IsLeastStored : ℕ → List (ℕ × List ℕ) → Option (ℕ × Bor (List ℕ)) → Type 0
IsLeastStored from es (Some e) = (from_on from es ≡ (e.0, e.1.now) ∷ from_on (e.0 + 1) es) × (length e.1.now ≤ 2048) × (e.0 < 2 ^ 32 - 1)
IsLeastStored from es None = from_on from es ≡ []
