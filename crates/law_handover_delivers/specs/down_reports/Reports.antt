-- What stands on the links of a run and reports to a terminal what was carried up of one bearer: status reports, in frames on a DU's tunnel
-- and on the terminal's radio down.
use Rattle.std.specs.Prelude.{◌≡◌, ℕ, ◌<◌, Bool, true, List, Option, Some, None}
use Rattle.std.specs.List.{AllByRecursion}
use Rattle.std.specs.Ordering.{eq_by_cmp}
use Rattle.gnb_types.specs.declared.names.UeId.{UeId}
use Rattle.gnb_types.specs.declared.names.BearerId.{BearerId}
use Rattle.gnb_types.specs.declared.keys.TunnelEnd.{TunnelEnd}
use Rattle.gnb_types.specs.Orders.{entity_cmp}
use Rattle.message_types.specs.declared.rrc.Token.{Token}
use Rattle.pdcp_defs.specs.Senders.{is_reported}
use Rattle.unit_defs.specs.Ways.{Message, Pdu, packet_pdu, report_pdu, Load, frame, Put, packet, radio}
use Rattle.transport_defs.specs.declared.Item.{Item}
use Rattle.run_defs.specs.Written.{Written}
use Rattle.run_defs.specs.States.{entity}
use Rattle.proof_run_steps.specs.tunnel_steps.Standing.{standing}
use Rattle.proof_run_steps.specs.radio_steps.Radios.{OnAir, on_air}
use Rattle.proof_bearer_refinement.specs.uplink_radio.Radio.{RunState, OnRadio}
use Rattle.proof_node_orders.specs.du_inputs.Puts.{is_of}
use Rattle.proof_bearer_refinement.specs.downlink_radio.Down.{down_key}

-- ---- what is said to have been received was carried up, where all COUNTs below `reached` were

abbrev pub ReportIsTrue : ℕ → ℕ → List Bool → Type 0
ReportIsTrue reached fmc bits = (i : ℕ) → is_reported fmc bits i ≡ true → i < reached

abbrev pub PduIsTrue : ℕ → Pdu → Type 0
PduIsTrue reached (packet_pdu count sdu) = Unit {0}
PduIsTrue reached (report_pdu fmc bits) = ReportIsTrue reached fmc bits

abbrev pub PayloadIsTrue : ℕ → Option Pdu → Type 0
PayloadIsTrue reached None = Unit {0}
PayloadIsTrue reached (Some pdu) = PduIsTrue reached pdu

-- of what stands on tunnels only frames are for a terminal
abbrev pub LoadIsTrue : ℕ → Load Pdu → Type 0
LoadIsTrue reached (frame poll restart number pdu) = PayloadIsTrue reached pdu
LoadIsTrue reached load = Unit {0}

-- ---- what stands on the tunnels of a run, of this bearer, and on its radio down

abbrev pub RunItem : Type 0
RunItem = Item (Written (Load Pdu))

abbrev pub ItemIsTrue : UeId → BearerId → ℕ → RunItem → Type 0
ItemIsTrue ue bearer reached item = is_of ue bearer item.key.ue item.key.bearer ≡ true → LoadIsTrue reached item.content.says

abbrev pub StandingIsTrue : UeId → BearerId → ℕ → Option (List RunItem) → Type 0
StandingIsTrue ue bearer reached None = Unit {0}
StandingIsTrue ue bearer reached (Some items) = AllByRecursion (ItemIsTrue ue bearer reached) items

abbrev pub RadioIsTrue : ℕ → OnAir (Written Pdu) → Type 0
RadioIsTrue reached a = AllByRecursion (λ (item : OnRadio). PduIsTrue reached item.content.says) a.radio.items

pub record ReportsDownAreTrue (ue : UeId) (bearer : BearerId) (reached : ℕ) (s : RunState) : Type 0 where
  pub tunnels : (end : TunnelEnd) → StandingIsTrue ue bearer reached (standing s end)
  pub radio : RadioIsTrue reached (on_air s (down_key ue bearer))

-- ---- what is put

abbrev pub RunPut : Type 0
RunPut = Put (Message Token) (Written (Load Pdu)) (Written Pdu)

abbrev pub PutIsTrue : UeId → BearerId → ℕ → RunPut → Type 0
PutIsTrue ue bearer reached (packet to teid who q dir tag load) = is_of ue bearer who q ≡ true → LoadIsTrue reached load.says
PutIsTrue ue bearer reached (radio who q dir epoch tag pdu) = eq_by_cmp entity_cmp (down_key ue bearer) (entity who q dir) ≡ true → PduIsTrue reached pdu.says
PutIsTrue ue bearer reached output = Unit {0}

abbrev pub PutsAreTrue : UeId → BearerId → ℕ → List RunPut → Type 0
PutsAreTrue ue bearer reached outputs = AllByRecursion (PutIsTrue ue bearer reached) outputs
