-- The units over octets: what they hold or refuse leaves them as they were, and what is so of them goes on to be so.
use Rattle.std.proofs.Common.{◌≡◌, ℕ, Bool, true, false, List, [], ◌∷◌, Some, None, refl}
use Rattle.std.specs.Prelude.{if◌then◌else◌, Result, Ok, Err}
use Rattle.gnb_types.specs.declared.names.Gnb.{Gnb}
use Rattle.gnb_types.specs.declared.names.NodeId.{NodeId}
use Rattle.gnb_types.specs.declared.inputs.Input.{Input as OctetInput}
use Rattle.gnb_types.specs.declared.inputs.Input.TheVariants as ins
use Rattle.gnb_types.specs.declared.inputs.Order.{Order}
use Rattle.gnb_types.specs.declared.inputs.Order.TheVariants as orders
use Rattle.gnb_types.specs.declared.reasons.DropReason.{DropReason}
use Rattle.gnb_types.specs.declared.reasons.DropReason.TheVariants.{Unexpected}
use Rattle.tables.specs.Tables.{find}
use Rattle.unit_defs.specs.Ways.{Message, Input, control_input, tick_input, order_input}
use Rattle.unit_defs.specs.Messages.{shares_interface}
use Rattle.unit_defs.specs.CuCpRecords.{CuCpRecord}
use Rattle.unit_defs.specs.CuCp.{cu_cp_acts}
use Rattle.unit_defs.specs.CuUpRecords.{CuUp}
use Rattle.unit_defs.specs.CuUp.{new_cu_up, up_node, cu_up_acts}
use Rattle.unit_defs.specs.Du.{Du, du_acts}
use Rattle.unit_defs.specs.Ue.{UeNode, ue_acts}
use Rattle.unit_defs.specs.octet_defs.Codec.{Codec, octet_way}
use Rattle.unit_defs.specs.octet_defs.Reading.{ReadInput, message_read, read_message, read_at_cu_cp, read_at_cu_up, read_at_du, read_at_ue}
use Rattle.unit_defs.specs.octet_defs.Units.{OctetAnswer, acts_on, cu_cp_steps, cu_up_steps, du_steps, ue_steps}
use Rattle.proof_site.specs.lone_units.Lone.{Makes, EndsIn, StaysWhereLone, StaysIn}
use Rattle.proof_site.specs.lone_units.Orders.{HasOrder, AreInOrder}
use Rattle.proof_site.proofs.lone_units.CuUps.{cu_up_stays, cu_up_makes, IsOther}
use Rattle.proof_site.proofs.lone_units.Dus.{du_makes}
use Rattle.proof_site.proofs.lone_units.Terminals.{ue_stays}
use Rattle.proof_site.proofs.lone_units.CuCps.{cu_cp_ends, cu_cp_stays}

abbrev Octets : Type 0
Octets = List ℕ

abbrev pub IsNoPoll : OctetInput → Type 0
IsNoPoll (ins.Order (orders.Poll ue bearer)) = ⊥
IsNoPoll input = Unit {0}

module _ (codec : Codec) where
  is_other : (order : Order) → IsNoPoll (ins.Order order) → IsOther (octet_way codec) (order_input order)
  is_other (orders.Poll ue bearer) is = is
  is_other order is = tt

  -- what is so of a message that is read, of all that a unit makes of its octets
  read_so : {R : Type 0} (Q : OctetAnswer R → Type 0) (act : Input Octets Octets → OctetAnswer R) (r : R) (from : NodeId)
      → ((m : Message Octets) → Q (act (control_input from m))) → ((reason : DropReason) → Q (acts_on act r (Err reason)))
      → (t : Bool) (m : Result (Message Octets) DropReason) → Q (acts_on act r (if t then message_read codec from m else Err Unexpected))
  read_so Q act r from each drop true (Ok m) = each m
  read_so Q act r from each drop true (Err reason) = drop reason
  read_so Q act r from each drop false m = drop Unexpected

  pub up_steps_stay : (r : CuUp Octets Octets) (input : OctetInput) → StaysWhereLone r (cu_up_steps codec r input)
  unfolding cu_up_steps
  up_steps_stay r input = by (read_at_cu_up codec r input)
    where
      by : (read : ReadInput) → StaysWhereLone r (acts_on (cu_up_acts (octet_way codec) r) r read)
      by (Ok heard) = cu_up_stays (octet_way codec) r heard
      by (Err reason) = tt

  -- a new CU-UP has nothing to hold
  pub new_up_makes : (gnb : Gnb) (number : ℕ) (input : OctetInput) → IsNoPoll input → Makes (cu_up_steps codec (new_cu_up gnb number) input)
  unfolding cu_up_steps read_at_cu_up find
  new_up_makes gnb number (ins.Control from octets) is =
      read_so Makes (cu_up_acts (octet_way codec) (new_cu_up gnb number)) (new_cu_up gnb number) from
      (λ m. cu_up_makes (octet_way codec) (new_cu_up gnb number) (control_input from m) tt) (λ reason. (tt, tt))
      (shares_interface (up_node {M = Octets} {C = Octets} (new_cu_up gnb number)) from) (codec.read from (up_node {M = Octets} {C = Octets} (new_cu_up gnb number)) octets)
  new_up_makes gnb number (ins.Packet teid octets) is = (tt, tt)
  new_up_makes gnb number ins.Tick is = cu_up_makes (octet_way codec) (new_cu_up gnb number) tick_input tt
  new_up_makes gnb number (ins.Order order) is = cu_up_makes (octet_way codec) (new_cu_up gnb number) (order_input order) (is_other order is)
  new_up_makes gnb number input is = (tt, tt)

  pub du_steps_make : (r : Du Octets Octets) (input : OctetInput) → Makes (du_steps codec r input)
  unfolding du_steps
  du_steps_make r input = by (read_at_du codec r input)
    where
      by : (read : ReadInput) → Makes (acts_on (du_acts (octet_way codec) r) r read)
      by (Ok heard) = du_makes (octet_way codec) r heard
      by (Err reason) = (tt, tt)

  pub ue_steps_stay : (u : UeNode) (input : OctetInput) → HasOrder u → StaysIn HasOrder u (ue_steps codec u input)
  unfolding ue_steps
  ue_steps_stay u input p = by (read_at_ue codec u input)
    where
      by : (read : ReadInput) → StaysIn HasOrder u (acts_on (ue_acts (octet_way codec) u) u read)
      by (Ok heard) = ue_stays (octet_way codec) u heard p
      by (Err reason) = (tt, p)

  pub cp_steps_end : (r : CuCpRecord Octets Octets) (input : OctetInput) → AreInOrder r → EndsIn (λ c. AreInOrder c) (cu_cp_steps codec r input)
  unfolding cu_cp_steps
  cp_steps_end r input p = by (read_at_cu_cp codec r input)
    where
      by : (read : ReadInput) → EndsIn (λ c. AreInOrder c) (acts_on (cu_cp_acts (octet_way codec) r) r read)
      by (Ok heard) = cu_cp_ends (octet_way codec) r heard p
      by (Err reason) = p

  pub cp_steps_stay : (r : CuCpRecord Octets Octets) (input : OctetInput) → AreInOrder r → StaysWhereLone r (cu_cp_steps codec r input)
  unfolding cu_cp_steps
  cp_steps_stay r input p = by (read_at_cu_cp codec r input)
    where
      by : (read : ReadInput) → StaysWhereLone r (acts_on (cu_cp_acts (octet_way codec) r) r read)
      by (Ok heard) = cu_cp_stays (octet_way codec) r heard p
      by (Err reason) = tt
