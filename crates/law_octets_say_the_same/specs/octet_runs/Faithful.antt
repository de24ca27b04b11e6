-- Where units read what is said: at each state that a run of packets comes to, a unit makes of the octets that it is given what it makes
-- of what they say.
use Rattle.std.specs.Prelude.{ℕ, ◌≡◌, List, ◌∷◌, Some}
use Rattle.gnb_types.specs.declared.names.NodeId.{NodeId}
use Rattle.gnb_types.specs.declared.names.UeId.{UeId}
use Rattle.gnb_types.specs.declared.names.BearerId.{BearerId}
use Rattle.gnb_types.specs.declared.names.Dir.{Dir}
use Rattle.gnb_types.specs.declared.names.Dir.TheVariants.{Dl}
use Rattle.gnb_types.specs.Orders.{tunnel_cmp}
use Rattle.message_types.specs.declared.rrc.Token.{Token}
use Rattle.tables.specs.Tables.{find}
use Rattle.unit_defs.specs.Ways.{Message, Pdu, Load}
use Rattle.unit_defs.specs.octet_defs.Codec.{Codec}
use Rattle.unit_defs.specs.octet_defs.Spelling.{spelled}
use Rattle.scenario_text.specs.declared.event.Event.{Event}
use Rattle.scenario_text.specs.declared.event.Event.TheVariants as events
use Rattle.transport_defs.specs.declared.Item.{Item}
use Rattle.transport_defs.specs.Links.{nth}
use Rattle.run_defs.specs.Written.{Written}
use Rattle.run_defs.specs.States.{RunStep, Given, item_for, carried_for, confirmed_for, new_state, goes, entity, radio_of, sn_of}
use Rattle.run_defs.specs.Conditions.{ready_home, receiver_of, sender_of, rests}
use Rattle.run_defs.specs.Runs.{Reading, plain_world, happens}
use Rattle.run_defs.specs.UnitRuns.{unit_world, tables}
use Rattle.law_octets_say_the_same.specs.octet_runs.Again.{PlainState, units_again, state_again, given_again, stepped_again}

-- terminals that are set up without messages, packets that are offered down, items that are got, carried and confirmed, and questions
abbrev pub IsOfPackets : Event → Type 0
IsOfPackets (events.Static plan) = Unit {0}
IsOfPackets (events.Offer ue bearer Dl packet) = Unit {0}
IsOfPackets (events.Get end teid) = Unit {0}
IsOfPackets (events.Air ue bearer dir) = Unit {0}
IsOfPackets (events.Ack ue bearer dir) = Unit {0}
IsOfPackets (events.Ask ue bearer) = Unit {0}
IsOfPackets event = ⊥

-- what a unit makes of octets is what it makes of what they say
abbrev pub ReadsAlike : Codec → Reading → PlainState → NodeId → Given (Message Token) (Written (Load Pdu)) (Written Pdu) → Type 0
ReadsAlike codec reading s node given =
    (unit_world codec (tables codec)).answer (sn_of s) (units_again s.units) node (given_again (spelled codec) given)
    ≡ stepped_again (spelled codec) ((plain_world reading).answer (sn_of s) s.units node given)

-- and a question is answered alike
abbrev pub RestsAlike : Codec → PlainState → UeId → BearerId → Type 0
RestsAlike codec s ue bearer = rests (state_again (spelled codec) s) ue bearer ≡ rests s ue bearer

-- of scripts whose events are all of these, and of states of which this holds
pub record IsFaithful (codec : Codec) (reading : Reading) (IsOne : Event → Type 0) (Holds : PlainState → Type 0) : Type 0 where
  pub packets : (event : Event) → IsOne event → IsOfPackets event
  pub begins : Holds new_state
  pub goes_on : (event : Event) (s after : PlainState) (steps : List (RunStep (Message Token))) → IsOne event → Holds s
      → happens (plain_world reading) event s ≡ goes steps after → Holds after
  pub got : (s : PlainState) (node : NodeId) (teid : ℕ) (item : Item (Written (Load Pdu))) (rest : List (Item (Written (Load Pdu))))
      → IsOne (events.Get node teid) → Holds s → find tunnel_cmp s.tunnels (record { node = node; teid = teid }) ≡ Some (item ∷ rest)
      → ReadsAlike codec reading s node (item_for teid item)
  pub carried : (s : PlainState) (ue : UeId) (bearer : BearerId) (dir : Dir) (home : NodeId) (item : Item (Written Pdu)) → IsOne (events.Air ue bearer dir) → Holds s
      → ready_home s ue ≡ Some home → nth (radio_of s (entity ue bearer dir)).items (radio_of s (entity ue bearer dir)).carried ≡ Some item
      → ReadsAlike codec reading s (receiver_of (entity ue bearer dir) home) (carried_for item)
  pub confirmed : (s : PlainState) (ue : UeId) (bearer : BearerId) (dir : Dir) (home : NodeId) (item : Item (Written Pdu)) (rest : List (Item (Written Pdu)))
      → IsOne (events.Ack ue bearer dir) → Holds s → ready_home s ue ≡ Some home → (radio_of s (entity ue bearer dir)).items ≡ item ∷ rest
      → ReadsAlike codec reading s (sender_of (entity ue bearer dir) home) (confirmed_for item)
  pub asked : (s : PlainState) (ue : UeId) (bearer : BearerId) → IsOne (events.Ask ue bearer) → Holds s → RestsAlike codec s ue bearer
