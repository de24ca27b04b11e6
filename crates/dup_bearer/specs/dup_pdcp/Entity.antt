-- The transmitting entity of a bearer with duplication as contracts see it: the entity of the definitions, with the length of its numbers,
-- its quota, and why it is of no use any more, if it isn't; and what its calls answer.
use Rattle.std.specs.Prelude.{◌≡◌, ◌⊎◌, ℕ, ◌≤◌, true, false, List, [], ◌∷◌, map, length, Option, Some, None, Result, Ok, Err}
use Rattle.std.specs.List.{AllByRecursion}
use Rattle.gnb_types.specs.declared.names.SnBits.{SnBits}
use Rattle.gnb_types.specs.declared.names.SnBits.TheVariants.{Len12, Len18}
use Rattle.pdcp.specs.Pdus.{radio_data}
use Rattle.pdcp.specs.declared.pdu.TheConstants.{PACKET_LIMIT}
use Rattle.dup_defs.specs.declared.types.error.DupError.{DupError}
use Rattle.dup_defs.specs.declared.types.error.DupError.TheVariants as errors
use Rattle.dup_defs.specs.declared.types.put.Put.{Put}
use Rattle.dup_bearer.specs.declared.dup_pdcp.ending.DupEnding.{DupEnding}
use Rattle.dup_bearer.specs.declared.dup_pdcp.ending.DupEnding.TheVariants as endings
use Rattle.dup_defs.specs.Senders.{DupSender, DupPut, DupNumbers, gives, spends, new_dup_sender, is_full, offered}

pub record DupTxState : Type 0 where
  pub sn : SnBits
  pub quota : ℕ
  pub entity : DupSender
  -- out of memory, or the last COUNT was given
  pub ended : Option DupEnding

abbrev pub new_tx : SnBits → ℕ → DupTxState
new_tx sn quota = record { sn = sn; quota = quota; entity = new_dup_sender; ended = None }

-- ---- what is put: a PDU stands for its packet

abbrev pub packet_in : SnBits → List ℕ → List ℕ
packet_in Len12 (a ∷ b ∷ packet) = packet
packet_in Len18 (a ∷ b ∷ c ∷ packet) = packet
packet_in sn octets = []

-- the PDU of its COUNT and of its packet, of 1 to 2,048 octets
abbrev pub IsPut : SnBits → Put → Type 0
IsPut sn put =
    (put.bytes ≡ radio_data sn put.count (packet_in sn put.bytes))
    × (1 ≤ length (packet_in sn put.bytes)) × (length (packet_in sn put.bytes) ≤ PACKET_LIMIT)

abbrev pub put_of : SnBits → Put → DupPut
put_of sn put = record { leg = put.leg; count = put.count; packet = packet_in sn put.bytes }

abbrev pub puts_of_code : SnBits → List Put → List DupPut
puts_of_code sn puts = map (put_of sn) puts

-- ---- what a call answers

abbrev pub error_of : DupEnding → DupError
error_of endings.Spent = errors.Spent
error_of endings.Memory = errors.Memory

-- it has ended so, and answers that again
abbrev pub HasEnded : DupEnding → DupTxState → DupTxState → Type 0
HasEnded ending old new = (old.ended ≡ Some ending) × (new ≡ old)

-- What the entity does: it puts, and goes on; or it has given the last COUNT, or had. Out of memory it is of no use.
abbrev pub IsAnswer : DupNumbers → DupTxState → DupTxState → Result (List Put) DupError → Type 0
IsAnswer numbers old new (Ok puts) =
    (old.ended ≡ None) × (numbers ≡ gives (puts_of_code old.sn puts) new.entity) × AllByRecursion (IsPut old.sn) puts
    × (new ≡ record old { entity = new.entity })
IsAnswer numbers old new (Err errors.Spent) =
    HasEnded endings.Spent old new ⊎ ((old.ended ≡ None) × (numbers ≡ spends) × (new.ended ≡ Some endings.Spent))
IsAnswer numbers old new (Err errors.Memory) = HasEnded endings.Memory old new ⊎ ((old.ended ≡ None) × (new.ended ≡ Some endings.Memory))
IsAnswer numbers old new (Err errors.Quota) = ⊥

-- a packet that is offered is refused where the quota is full, and there alone
abbrev pub IsOffered : List ℕ → DupTxState → DupTxState → Result (List Put) DupError → Type 0
IsOffered packet old new (Err errors.Quota) = (old.ended ≡ None) × (is_full old.quota old.entity ≡ true) × (new ≡ old)
IsOffered packet old new (Ok puts) =
    (is_full old.quota old.entity ≡ false) × IsAnswer (offered old.sn old.quota packet old.entity) old new (Ok puts)
IsOffered packet old new (Err errors.Spent) =
    HasEnded endings.Spent old new
    ⊎ ((is_full old.quota old.entity ≡ false) × IsAnswer (offered old.sn old.quota packet old.entity) old new (Err errors.Spent))
IsOffered packet old new (Err errors.Memory) = IsAnswer (offered old.sn old.quota packet old.entity) old new (Err errors.Memory)
