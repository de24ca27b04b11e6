-- A bearer is quiet in a state over octets where it is in the state of what is said.
use Rattle.std.proofs.Common.{◌≡◌, ◌==◌, ℕ, Bool, true, not, ◌&&◌, ◌||◌, List, [], ◌∷◌, count_by, Option, Some, None, refl, sym, ap, ◌∙◌}
use Rattle.std.specs.List.{list_all, list_any}
use Rattle.std.specs.Ordering.{nat_cmp}
use Rattle.std.specs.Option.{option_map}
use Rattle.gnb_types.specs.declared.names.NodeId.{NodeId}
use Rattle.gnb_types.specs.declared.names.UeId.{UeId}
use Rattle.gnb_types.specs.declared.names.BearerId.{BearerId}
use Rattle.gnb_types.specs.declared.keys.TunnelEnd.{TunnelEnd}
use Rattle.gnb_types.specs.declared.keys.EntityKey.{EntityKey}
use Rattle.message_types.specs.declared.rrc.Token.{Token}
use Rattle.tables.specs.Tables.{find, map_values}
use Rattle.tables.proofs.TableLaws.{find-mapped}
use Rattle.transaction_defs.specs.Callers.{rests as caller_rests}
use Rattle.unit_defs.specs.Transactions.{terminal_rests}
use Rattle.unit_defs.specs.Ways.{Message, Pdu, Load}
use Rattle.unit_defs.specs.CuUpRecords.{CuUp}
use Rattle.unit_defs.specs.Ue.{UeNode, is_connected}
use Rattle.unit_defs.specs.Accessors.{ue_rests, cu_up_rests}
use Rattle.unit_defs.specs.octet_defs.Codec.{Codec}
use Rattle.unit_defs.specs.octet_defs.Spelling.{spelled}
use Rattle.transport_defs.specs.declared.Item.{Item}
use Rattle.transport_defs.specs.declared.ControlMessage.{ControlMessage}
use Rattle.transport_defs.specs.Links.{Bag, Radio, control_message, is_of, in_flight_of, is_of_bearer}
use Rattle.run_defs.specs.Written.{Written}
use Rattle.run_defs.specs.Units.{ue_of, has_attempt, requests_rest}
use Rattle.run_defs.specs.Conditions.{is_quiet_with, rests}
use Rattle.law_octets_say_the_same.specs.octet_rows.Octets.{up_again}
use Rattle.law_octets_say_the_same.specs.octet_runs.Again.{PlainState, PlainUnits, OctetState, items_again, radio_again, units_again, control_message_again, bag_again, state_again}
use Rattle.law_octets_say_the_same.specs.octet_runs.Faithful.{RestsAlike}

-- ---- links

module _ (ue : UeId) (bearer : BearerId) where
  any_same : {X : Type 0} (items : List (Item (Written X))) → list_any (is_of_bearer ue bearer) (items_again items) ≡ list_any (is_of_bearer ue bearer) items
  any_same [] = refl
  any_same (item ∷ items) = ap (λ (t : Bool). is_of_bearer ue bearer item || t) (any_same items)

  tunnels_same : (ts : List (TunnelEnd × List (Item (Written (Load Pdu)))))
      → list_all (λ (e : TunnelEnd × List (Item (List ℕ))). not (list_any (is_of_bearer ue bearer) e.1)) (map_values items_again ts)
      ≡ list_all (λ (e : TunnelEnd × List (Item (Written (Load Pdu)))). not (list_any (is_of_bearer ue bearer) e.1)) ts
  unfolding map_values
  tunnels_same [] = refl
  tunnels_same (e ∷ ts) = λ i. not (any_same e.1 i) && tunnels_same ts i

  radios_same : (rs : List (EntityKey × Radio (Written Pdu)))
      → list_all (λ (e : EntityKey × Radio (List ℕ)). not (list_any (is_of_bearer ue bearer) e.1.items)) (map_values radio_again rs)
      ≡ list_all (λ (e : EntityKey × Radio (Written Pdu)). not (list_any (is_of_bearer ue bearer) e.1.items)) rs
  unfolding map_values
  radios_same [] = refl
  radios_same (e ∷ rs) = λ i. not (any_same e.1.items i) && radios_same rs i

  ups_same : (us : List (NodeId × CuUp (Message Token) Token))
      → list_all (λ (e : NodeId × CuUp (List ℕ) (List ℕ)). cu_up_rests e.1 ue bearer) (map_values up_again us)
      ≡ list_all (λ (e : NodeId × CuUp (Message Token) Token). cu_up_rests e.1 ue bearer) us
  unfolding map_values
  ups_same [] = refl
  ups_same (e ∷ us) = ap (λ (t : Bool). cu_up_rests e.1 ue bearer && t) (ups_same us)

-- ---- control messages in flight, and requests

module _ (encode : Message Token → List ℕ) (bag : Bag (Message Token)) (who : ℕ) where
  same_control_message : (number : ℕ) → is_of who (control_message (bag_again encode bag) number) ≡ is_of who (control_message bag number)
  unfolding control_message
  same_control_message number = ap (is_of who) (find-mapped nat_cmp (control_message_again encode) bag.control_messages number) ∙ by (find nat_cmp bag.control_messages number)
    where
      by : (o : Option (ControlMessage (Message Token))) → is_of who (option_map (control_message_again encode) o) ≡ is_of who o
      by None = refl
      by (Some l) = refl

  flight_same : in_flight_of (bag_again encode bag) who ≡ in_flight_of bag who
  unfolding in_flight_of
  flight_same = λ i. count_by (λ number. same_control_message number i) bag.flight

none_asked : (u : PlainUnits) (who : UeId) → requests_rest (units_again u) who ≡ true
unfolding terminal_rests caller_rests
none_asked u who = refl

-- ---- a question

module _ (codec : Codec) (s : PlainState) (ue : UeId) (bearer : BearerId) (idle : (who : UeId) → requests_rest s.units who ≡ true) where
  abbrev there : OctetState
  there = state_again (spelled codec) s

  quiet_same : (o : Option UeNode) → is_quiet_with there ue bearer o ≡ is_quiet_with s ue bearer o
  quiet_same None = refl
  quiet_same (Some u) = λ i.
      (is_connected u.state && not (has_attempt s.units ue) && flight_same (spelled codec) s.bag ue.0 i == 0 && asked i)
      && (tunnels_same ue bearer s.tunnels i && radios_same ue bearer s.radios i) && ue_rests u bearer && ups_same ue bearer s.units.ups i
    where
      asked : requests_rest (units_again s.units) ue ≡ requests_rest s.units ue
      asked = none_asked s.units ue ∙ sym (idle ue)

  pub asks_alike : RestsAlike codec s ue bearer
  unfolding rests
  asks_alike = quiet_same (ue_of s.units ue)
