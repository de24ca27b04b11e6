-- What a row of a handover does to its bearer: what it gives to the downlink and to the uplink, and the bearer.
use Rattle.std.specs.Prelude.{◌≡◌, ℕ, Bool, List, [], ◌∷◌, ◌++◌, map, ⊤}
use Rattle.gnb_types.specs.declared.names.SnBits.{SnBits}
use Rattle.pdcp_defs.specs.Receivers.{deliver}
use Rattle.unit_defs.specs.Ways.{Pdu, packet_pdu, report_pdu, Way, Answer, gives, spent}
use Rattle.unit_defs.specs.CuUpRecords.{CuUpBearer}
use Rattle.proof_cu_up_orders.specs.chain_rows.Shown.{items_of, pdus_of, plain, numbers_all, still_waits, numbered_pdus}
use Rattle.proof_cu_up_orders.specs.uplink_rows.Shown.{items_of as items_up, delivered_in}

-- Nothing goes on to another context; these PDUs go to the radio, these packets are delivered, and this is the bearer, but for the
-- number of its next frame and its restart mark. Or a counter is spent.
unfoldable pub Does : {M C P : Type 0} → Way M C P → SnBits → List Pdu → List (ℕ × List ℕ) → CuUpBearer → Answer M P CuUpBearer → Type 0
Does way sn pdus packets after (gives outputs b) =
    (items_of outputs ≡ []) × (items_up outputs ≡ []) × (pdus_of outputs ≡ map (λ pdu. way.write sn pdu) pdus)
    × (delivered_in outputs ≡ packets) × (plain b ≡ plain after)
Does way sn pdus packets after (spent counter) = ⊤

-- packets of the store, in their order
abbrev pub again : List (ℕ × List ℕ) → List Pdu
again es = map (λ e. packet_pdu e.0 e.1) es

-- what the receiver hands up is delivered
abbrev pub handed_up : CuUpBearer → CuUpBearer
handed_up b = record b { receiver = (deliver b.receiver).after }

module _ (sn : SnBits) (quota : ℕ) where
  -- what waits is numbered while there is room
  abbrev pub numbered_all : CuUpBearer → CuUpBearer
  numbered_all b = record b {
    sender = numbers_all sn quota b.waiting b.sender;
    waiting = still_waits sn quota b.waiting b.waiting b.sender;
  }

  -- these packets, and then those that get a COUNT
  abbrev pub with_numbered : List (ℕ × List ℕ) → CuUpBearer → List Pdu
  with_numbered es b = again es ++ numbered_pdus sn quota b.waiting b.sender

  -- a downlink begins: a status report, all that nothing confirmed, and what gets a COUNT
  abbrev pub begun : ℕ → List Bool → CuUpBearer → List Pdu
  begun fmc bits b = report_pdu fmc bits ∷ with_numbered b.sender.unconfirmed b
