-- What stands on the links of a run and reports to a CU-UP what a terminal received of one bearer: delivery statuses, and status reports.
use Rattle.std.specs.Prelude.{◌≡◌, ℕ, ◌<◌, ◌≤◌, true, List, [], Option, Some, None}
use Rattle.std.specs.List.{AllByRecursion}
use Rattle.std.specs.Ordering.{eq_by_cmp}
use Rattle.gnb_types.specs.declared.names.UeId.{UeId}
use Rattle.gnb_types.specs.declared.names.BearerId.{BearerId}
use Rattle.gnb_types.specs.declared.keys.TunnelEnd.{TunnelEnd}
use Rattle.gnb_types.specs.Orders.{entity_cmp}
use Rattle.message_types.specs.declared.rrc.Token.{Token}
use Rattle.unit_defs.specs.Ways.{Message, Pdu, packet_pdu, report_pdu, Load, fresh, numbered, frame, uplink, status, end_marker, Put, packet, radio}
use Rattle.transport_defs.specs.declared.Item.{Item}
use Rattle.run_defs.specs.Written.{Written}
use Rattle.run_defs.specs.States.{entity}
use Rattle.proof_run_steps.specs.tunnel_steps.Standing.{standing}
use Rattle.proof_run_steps.specs.radio_steps.Radios.{OnAir, on_air}
use Rattle.proof_bearer_refinement.specs.uplink_radio.Radio.{RunState, OnRadio, up_key}
use Rattle.proof_node_orders.specs.du_inputs.Puts.{is_of}

-- ---- what is said to be received was, where the terminal received all below `deliv`

abbrev pub PduIsTrue : ℕ → Pdu → Type 0
PduIsTrue deliv (packet_pdu count sdu) = Unit {0}
PduIsTrue deliv (report_pdu fmc bits) = (fmc ≤ deliv) × (bits ≡ [])

abbrev pub CountIsTrue : ℕ → Option ℕ → Type 0
CountIsTrue deliv None = Unit {0}
CountIsTrue deliv (Some count) = count < deliv

abbrev pub LoadIsTrue : ℕ → Load Pdu → Type 0
LoadIsTrue deliv (uplink pdu) = PduIsTrue deliv pdu
LoadIsTrue deliv (status lost delivered) = CountIsTrue deliv delivered
LoadIsTrue deliv (fresh sdu) = Unit {0}
LoadIsTrue deliv (numbered sn count sdu) = Unit {0}
LoadIsTrue deliv (frame poll restart number pdu) = Unit {0}
LoadIsTrue deliv end_marker = Unit {0}

-- ---- what stands on the tunnels of a run, of this bearer, and on its radio up

abbrev pub RunItem : Type 0
RunItem = Item (Written (Load Pdu))

abbrev pub ItemIsTrue : UeId → BearerId → ℕ → RunItem → Type 0
ItemIsTrue ue bearer deliv item = is_of ue bearer item.key.ue item.key.bearer ≡ true → LoadIsTrue deliv item.content.says

abbrev pub StandingIsTrue : UeId → BearerId → ℕ → Option (List RunItem) → Type 0
StandingIsTrue ue bearer deliv None = Unit {0}
StandingIsTrue ue bearer deliv (Some items) = AllByRecursion (ItemIsTrue ue bearer deliv) items

abbrev pub RadioIsTrue : ℕ → OnAir (Written Pdu) → Type 0
RadioIsTrue deliv a = AllByRecursion (λ (item : OnRadio). PduIsTrue deliv item.content.says) a.radio.items

pub record ReportsAreTrue (ue : UeId) (bearer : BearerId) (deliv : ℕ) (s : RunState) : Type 0 where
  pub tunnels : (end : TunnelEnd) → StandingIsTrue ue bearer deliv (standing s end)
  pub radio : RadioIsTrue deliv (on_air s (up_key ue bearer))

-- ---- what is put

abbrev pub RunPut : Type 0
RunPut = Put (Message Token) (Written (Load Pdu)) (Written Pdu)

abbrev pub PutIsTrue : UeId → BearerId → ℕ → RunPut → Type 0
PutIsTrue ue bearer deliv (packet to teid who q dir tag load) = is_of ue bearer who q ≡ true → LoadIsTrue deliv load.says
PutIsTrue ue bearer deliv (radio who q dir epoch tag pdu) = eq_by_cmp entity_cmp (up_key ue bearer) (entity who q dir) ≡ true → PduIsTrue deliv pdu.says
PutIsTrue ue bearer deliv output = Unit {0}

abbrev pub PutsAreTrue : UeId → BearerId → ℕ → List RunPut → Type 0
PutsAreTrue ue bearer deliv outputs = AllByRecursion (PutIsTrue ue bearer deliv) outputs
