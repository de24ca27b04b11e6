-- What stands on the radio up of one bearer in a run, as the two lists of the bearer's model; and the steps of its terminal and of the DU
-- at the other end.
use Rattle.std.specs.Prelude.{◌≡◌, ℕ, true, false, List, [], ◌∷◌, ◌++◌, length, map, Some, None}
use Rattle.std.specs.List.{AllByRecursion}
use Rattle.std.specs.Ordering.{eq_by_cmp}
use Rattle.gnb_types.specs.declared.names.NodeId.{NodeId}
use Rattle.gnb_types.specs.declared.names.NodeId.TheVariants.{Ue}
use Rattle.gnb_types.specs.declared.names.UeId.{UeId}
use Rattle.gnb_types.specs.declared.names.BearerId.{BearerId}
use Rattle.gnb_types.specs.declared.names.Dir.TheVariants.{Ul}
use Rattle.gnb_types.specs.declared.keys.EntityKey.{EntityKey}
use Rattle.gnb_types.specs.Orders.{ue_cmp, bearer_cmp, entity_cmp}
use Rattle.message_types.specs.declared.rrc.Token.{Token}
use Rattle.scenario_text.specs.declared.event.Event.{Event}
use Rattle.unit_defs.specs.Ways.{Message, Pdu, packet_pdu, report_pdu, packet_content, Load, Input, confirm_input, Put, Output, radio, gives}
use Rattle.unit_defs.specs.Ue.{UeNode, ue_acts}
use Rattle.transport_defs.specs.declared.Item.{Item}
use Rattle.transport_defs.specs.Links.{Radio, silent}
use Rattle.run_defs.specs.Lines.{RunLine}
use Rattle.run_defs.specs.Units.{Units, ue_of, with_ue}
use Rattle.run_defs.specs.Written.{Written, written_put}
use Rattle.run_defs.specs.States.{State, entity, sn_of, was_attached, goes}
use Rattle.run_defs.specs.Steps.{carried_out, epoch_on_air}
use Rattle.run_defs.specs.Runs.{Reading, plain_world, plain_way, input_of}
use Rattle.proof_run_steps.specs.steps.Causes.{Cause, by_attach, by_release, by_air, by_ack, Stands, node_of, given_of, count_of, first_of}
use Rattle.proof_run_steps.specs.radio_steps.Radios.{OnAir, on_air}
use Rattle.bearer_defs.specs.uplink_defs.Models.{Model}
use Rattle.proof_node_orders.specs.terminal_inputs.Inputs.{Models, IsShown, packet_in, rest_of}

abbrev pub RunState : Type 0
RunState = State (Message Token) Token (Written (Load Pdu)) (Written Pdu)

abbrev pub RunCause : Type 0
RunCause = Cause (Message Token) (Written (Load Pdu)) (Written Pdu)

abbrev pub OnRadio : Type 0
OnRadio = Item (Written Pdu)

-- the packets of what stands there: status reports say nothing
unfoldable pub packets_on : List OnRadio → List (ℕ × List ℕ)
packets_on [] = []
packets_on (item ∷ items) = packet_in item.content.says ++ packets_on items

-- the COUNTs of what was carried and isn't confirmed, and the packets that weren't carried
pub record IsRadio (r : Radio (Written Pdu)) (counts : List ℕ) (packets : List (ℕ × List ℕ)) : Type 0 where
  pub carried : List OnRadio
  pub left : List OnRadio
  pub items : r.items ≡ carried ++ left
  pub so_many : r.carried ≡ length carried
  pub known : map (λ e. e.0) (packets_on carried) ≡ counts
  pub waits : packets_on left ≡ packets

-- where the radios aren't connected nothing stands there; and where the terminal isn't connected the model has nothing there
pub record IsOnAir (a : OnAir (Written Pdu)) (u : Model) : Type 0 where
  pub radio : IsRadio a.radio u.carried u.air
  pub off : a.epoch ≡ None → a.radio ≡ silent
  pub quiet : u.connected ≡ false → (u.carried ≡ []) × (u.air ≡ [])

abbrev pub up_key : UeId → BearerId → EntityKey
up_key ue bearer = entity ue bearer Ul

-- the terminal, connected as it is, shows the models; and its radio up is what the model has
pub record IsAtTerminal (reading : Reading) (ue : UeId) (bearer : BearerId) (s : RunState) (b : Models) : Type 0 where
  pub terminal : UeNode
  pub there : ue_of s.units ue ≡ Some terminal
  pub itself : terminal.plan.ue ≡ ue
  pub attached : was_attached s ue ≡ true
  pub shown : IsShown terminal bearer b
  pub epoch : (on_air s (up_key ue bearer)).epoch ≡ epoch_on_air (plain_world reading) (Some terminal)
  pub radio : IsOnAir (on_air s (up_key ue bearer)) b.up

-- ---- the terminal makes a step

pub record IsUeStep (reading : Reading) (event : Event) (s t : RunState) (ue : UeId) (u v : UeNode) (cause : RunCause) (input : Input Token Pdu)
    (outputs : List (Output (Message Token) Pdu)) : Type 0 where
  pub node : node_of cause ≡ Ue ue.0
  pub given : input_of reading (given_of cause) ≡ Some input
  pub stands : Stands event s cause
  pub answers : ue_acts plain_way u input ≡ gives outputs v
  pub lines : List (RunLine (Message Token))
  pub goes_on : carried_out (plain_world reading) (node_of cause) (count_of cause) (first_of (plain_world reading) cause)
      (map (written_put (sn_of s)) outputs) (with_ue s.units ue v) s ≡ goes lines t

-- what is confirmed to it is the oldest that was carried
abbrev pub AssumedOnRadio : BearerId → Model → Input Token Pdu → Type 0
AssumedOnRadio bearer u (confirm_input who other Ul pdu (packet_content (Some count) packet)) =
    eq_by_cmp bearer_cmp bearer other ≡ true → u.carried ≡ count ∷ rest_of u.carried
AssumedOnRadio bearer u input = Unit {0}

-- ---- a DU takes what stands there next: a packet is the model's, too

abbrev pub StandsNext : Model → Pdu → Type 0
StandsNext u (packet_pdu count packet) = u.air ≡ (count, packet) ∷ rest_of u.air
StandsNext u (report_pdu fmc bits) = Unit {0}

-- ---- steps of others

-- what is put on another radio
abbrev pub IsOff : {M L P : Type 0} → EntityKey → Put M L P → Type 0
IsOff key (radio who q dir epoch tag pdu) = eq_by_cmp entity_cmp key (entity who q dir) ≡ false
IsOff key output = Unit {0}

abbrev pub IsOther : UeId → NodeId → Type 0
IsOther ue (Ue w) = eq_by_cmp ue_cmp ue (record { 0 = w }) ≡ false
IsOther ue node = Unit {0}

-- nothing is carried or confirmed there, and the terminal isn't released
abbrev pub Leaves : {M L P : Type 0} → EntityKey → Cause M L P → Type 0
Leaves key (by_air from home item) = eq_by_cmp entity_cmp key from ≡ false
Leaves key (by_ack from home item rest) = eq_by_cmp entity_cmp key from ≡ false
Leaves key (by_release gnb ue) = eq_by_cmp ue_cmp key.ue ue ≡ false
Leaves key (by_attach plan) = eq_by_cmp ue_cmp key.ue plan.ue ≡ false
Leaves key cause = Unit {0}

-- a unit's step that isn't this terminal's, and what its answer leaves
pub record IsFrameStep (reading : Reading) (s t : RunState) (ue : UeId) (bearer : BearerId) (cause : RunCause)
    (outputs : List (Put (Message Token) (Written (Load Pdu)) (Written Pdu))) (units : Units (Message Token) Token) : Type 0 where
  pub other : IsOther ue (node_of cause)
  pub off : AllByRecursion (IsOff (up_key ue bearer)) outputs
  pub terminal : ue_of units ue ≡ ue_of s.units ue
  pub lines : List (RunLine (Message Token))
  pub goes_on : carried_out (plain_world reading) (node_of cause) (count_of cause) (first_of (plain_world reading) cause) outputs units s ≡ goes lines t
