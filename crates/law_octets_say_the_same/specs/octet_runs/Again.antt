-- A state of the run of what is said, as a state of the run over octets: control messages are spelled, on links stand the octets, and
-- records of units are the same, without requests.
use Rattle.std.specs.Prelude.{ℕ, List, map}
use Rattle.tables.specs.Tables.{map_values}
use Rattle.message_types.specs.declared.rrc.Token.{Token}
use Rattle.unit_defs.specs.Transactions.{no_transactions}
use Rattle.unit_defs.specs.Ways.{Message, Pdu, Load, Put, control, packet, radio, deliver, dropped, held, opened, closed, failed, no}
use Rattle.unit_defs.specs.CuCpRecords.{CuCpRecord}
use Rattle.unit_defs.specs.Core.{CoreRecord}
use Rattle.transport_defs.specs.declared.Item.{Item}
use Rattle.transport_defs.specs.declared.ControlMessage.{ControlMessage}
use Rattle.transport_defs.specs.Links.{Bag, Radio}
use Rattle.run_defs.specs.Units.{Units}
use Rattle.run_defs.specs.Written.{Written}
use Rattle.run_defs.specs.States.{State, Given, control_message_for, item_for, carried_for, confirmed_for, offer_for, tick_for, order_for, octets_from, octets_on, Stepped, stepped, step_spent}
use Rattle.run_defs.specs.UnitRuns.{OctetGiven, OctetPut, OctetStepped}
use Rattle.law_octets_say_the_same.specs.octet_rows.Octets.{up_again, du_again}

abbrev pub PlainState : Type 0
PlainState = State (Message Token) Token (Written (Load Pdu)) (Written Pdu)

abbrev pub OctetState : Type 0
OctetState = State (List ℕ) (List ℕ) (List ℕ) (List ℕ)

abbrev pub PlainUnits : Type 0
PlainUnits = Units (Message Token) Token

abbrev pub OctetUnits : Type 0
OctetUnits = Units (List ℕ) (List ℕ)

-- ---- records

abbrev pub cp_again : {M C M2 C2 : Type 0} → CuCpRecord M C → CuCpRecord M2 C2
cp_again r = record { gnb = r.gnb; units = r.units; terminals = r.terminals; transactions = no_transactions }

abbrev pub core_again : {M C M2 C2 : Type 0} → CoreRecord M C → CoreRecord M2 C2
core_again r = record { paths = r.paths; transactions = no_transactions }

abbrev pub units_again : PlainUnits → OctetUnits
units_again u = record {
  cu_cp_a = cp_again u.cu_cp_a;
  cu_cp_b = cp_again u.cu_cp_b;
  ups = map_values up_again u.ups;
  dus = map_values du_again u.dus;
  ues = u.ues;
}

-- ---- links

abbrev pub item_again : {X : Type 0} → Item (Written X) → Item (List ℕ)
item_again item = record { key = item.key; count = item.count; content = item.content.octets }

abbrev pub items_again : {X : Type 0} → List (Item (Written X)) → List (Item (List ℕ))
items_again items = map item_again items

abbrev pub radio_again : Radio (Written Pdu) → Radio (List ℕ)
radio_again r = record { items = items_again r.items; carried = r.carried }

module _ (spelled : Message Token → List ℕ) where
  abbrev pub control_message_again : ControlMessage (Message Token) → ControlMessage (List ℕ)
  control_message_again l = record { from = l.from; to = l.to; ue = l.ue; message = spelled l.message }

  abbrev pub bag_again : Bag (Message Token) → Bag (List ℕ)
  bag_again bag = record { control_messages = map_values control_message_again bag.control_messages; flight = bag.flight }

  -- ---- a state

  abbrev pub state_again : PlainState → OctetState
  state_again s = record {
    units = units_again s.units;
    core = core_again s.core;
    bag = bag_again s.bag;
    tunnels = map_values items_again s.tunnels;
    radios = map_values radio_again s.radios;
    connected = s.connected;
    plans = s.plans;
    gone = s.gone;
    books = s.books;
    started = s.started;
  }

  -- ---- what a unit is given, what it puts out, and what comes of it

  abbrev pub given_again : Given (Message Token) (Written (Load Pdu)) (Written Pdu) → OctetGiven
  given_again (control_message_for from message) = control_message_for from (spelled message)
  given_again (item_for teid item) = item_for teid (item_again item)
  given_again (carried_for item) = carried_for (item_again item)
  given_again (confirmed_for item) = confirmed_for (item_again item)
  given_again (offer_for ue bearer p) = offer_for ue bearer p
  given_again tick_for = tick_for
  given_again (order_for order) = order_for order
  given_again (octets_from from octets) = octets_from from octets
  given_again (octets_on teid octets) = octets_on teid octets

  abbrev pub put_again : Put (Message Token) (Written (Load Pdu)) (Written Pdu) → OctetPut
  put_again (control to ue message) = control to ue (spelled message)
  put_again (packet to teid ue bearer dir tag load) = packet to teid ue bearer dir tag load.octets
  put_again (radio ue bearer dir epoch tag pdu) = radio ue bearer dir epoch tag pdu.octets
  put_again (deliver ue bearer dir count p) = deliver ue bearer dir count p
  put_again (dropped reason) = dropped reason
  put_again (held reason) = held reason
  put_again (opened teid) = opened teid
  put_again (closed teid) = closed teid
  put_again (failed ue cause) = failed ue cause
  put_again (no reason) = no reason

  abbrev pub stepped_again : Stepped (Message Token) Token (Written (Load Pdu)) (Written Pdu) → OctetStepped
  stepped_again (stepped outputs units) = stepped (map put_again outputs) (units_again units)
  stepped_again (step_spent counter) = step_spent counter
