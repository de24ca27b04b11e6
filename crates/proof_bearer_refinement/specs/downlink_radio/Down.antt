-- What stands on the radio down of one bearer in a run, beside the bearer's model down: what was put for the present radio, without a gap
-- from the next packet to be received.
use Rattle.std.specs.Prelude.{◌≡◌, false, ℕ, ◌<◌, ◌&&◌, if◌then◌else◌, List, [], ◌∷◌, ◌++◌, Option, None}
use Rattle.std.specs.List.{AllByRecursion}
use Rattle.std.specs.Ordering.{eq_by_cmp}
use Rattle.gnb_types.specs.declared.names.UeId.{UeId}
use Rattle.gnb_types.specs.declared.names.BearerId.{BearerId}
use Rattle.gnb_types.specs.declared.names.Dir.TheVariants.{Dl}
use Rattle.gnb_types.specs.declared.keys.EntityKey.{EntityKey}
use Rattle.gnb_types.specs.Orders.{ue_cmp, entity_cmp}
use Rattle.message_types.specs.declared.rrc.Token.{Token}
use Rattle.bearer_defs.specs.chain_defs.Models.{Model}
use Rattle.intervals.specs.Intervals.{HasNoGap}
use Rattle.unit_defs.specs.Ways.{Message, Pdu, packet_pdu, report_pdu, Load, Put, radio}
use Rattle.transport_defs.specs.Links.{silent, is_epoch}
use Rattle.run_defs.specs.Written.{Written}
use Rattle.run_defs.specs.States.{entity}
use Rattle.proof_run_steps.specs.steps.Causes.{by_release, by_air}
use Rattle.proof_run_steps.specs.radio_steps.Radios.{OnAir}
use Rattle.proof_node_orders.specs.terminal_inputs.Inputs.{packet_in}
use Rattle.proof_bearer_refinement.specs.uplink_radio.Radio.{RunCause, IsRadio}
use Rattle.law_downlink_order.specs.received_packets.Received.{WasPut}

abbrev pub down_key : UeId → BearerId → EntityKey
down_key ue bearer = entity ue bearer Dl

-- `known`: the COUNTs of what was carried there and isn't confirmed to the DU; `waits`: the packets that weren't carried
pub record IsDown (a : OnAir (Written Pdu)) (d : Model) : Type 0 where
  pub known : List ℕ
  pub waits : List (ℕ × List ℕ)
  pub radio : IsRadio a.radio known waits
  pub received : AllByRecursion (λ (count : ℕ). count < d.terminal.deliv) known
  pub put : AllByRecursion (λ (e : ℕ × List ℕ). WasPut d e.0 e.1) waits
  pub no_gap : HasNoGap d.terminal.deliv waits
  pub off : a.epoch ≡ None → a.radio ≡ silent

-- ---- steps of others

abbrev pub Puts : Type 0
Puts = List (Put (Message Token) (Written (Load Pdu)) (Written Pdu))

-- the packets that are put on this radio, where it is connected in this epoch
unfoldable pub packets_down : EntityKey → Option ℕ → Puts → List (ℕ × List ℕ)
packets_down key at [] = []
packets_down key at (radio who q dir epoch tag pdu ∷ outputs) =
    (if eq_by_cmp entity_cmp key (entity who q dir) && is_epoch at epoch then packet_in pdu.says else []) ++ packets_down key at outputs
packets_down key at (output ∷ outputs) = packets_down key at outputs

-- nothing is carried there, and the terminal isn't released
abbrev pub Stays : EntityKey → RunCause → Type 0
Stays key (by_air from home item) = eq_by_cmp entity_cmp key from ≡ false
Stays key (by_release gnb ue) = eq_by_cmp ue_cmp key.ue ue ≡ false
Stays key cause = Unit {0}

-- what is confirmed there was received
abbrev pub WasReceived : Model → Pdu → Type 0
WasReceived d (packet_pdu count packet) = count < d.terminal.deliv
WasReceived d (report_pdu fmc bits) = Unit {0}
