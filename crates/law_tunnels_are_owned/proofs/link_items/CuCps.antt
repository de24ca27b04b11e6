-- A CU-CP puts no items: control messages alone.
use Rattle.std.proofs.Common.{ℕ, Bool, false, List, [], ◌∷◌, Option, Some, None}
use Rattle.std.specs.Prelude.{if◌then◌else◌}
use Rattle.gnb_types.specs.declared.names.NodeId.{NodeId}
use Rattle.gnb_types.specs.declared.names.UeId.{UeId}
use Rattle.gnb_types.specs.declared.keys.Channel.{Channel}
use Rattle.gnb_types.specs.declared.inputs.Order.TheVariants as orders
use Rattle.gnb_types.specs.declared.reasons.DropReason.TheVariants.{Unexpected}
use Rattle.transaction_defs.specs.Callers.{due, Due, repeats, expires, after_tick}
use Rattle.message_types.specs.declared.f1.F1.TheVariants as f1s
use Rattle.message_types.specs.declared.e1.E1Message.TheVariants as e1s
use Rattle.message_types.specs.declared.xn.XnMessage.TheVariants as xns
use Rattle.message_types.specs.declared.rrc.Token.{Token}
use Rattle.unit_defs.specs.Ways.{Message, f1, e1, xn, Pdu, Input, control_input, packet_input, radio_input, confirm_input, offer_input, tick_input, order_input, Answer, ◌then◌, nothing, drops}
use Rattle.unit_defs.specs.Messages.{channel, shares_interface}
use Rattle.unit_defs.specs.Transactions.{Kind, request, reply, transfer, kind_of, ask, ask_at_once, advance, replied, replied_late}
use Rattle.unit_defs.specs.CuCpRecords.{CuCpRecord, terminal_of, with_terminal, with_transactions, waiting_of, after_asked, noted, Action, asks, cancels, replies, replies_late, sends, fails, ignores, refuses, forgets, act_one, act_all, Row, row, row_spent, carry_out}
use Rattle.unit_defs.specs.CuCp.{at_of, Answered, answers_none, answers_with, answer, put_next, closed_at, answered_by, reply_received, with_unit, set_up, asked, token_received, transferred, control_by, control_received, due_one, due_each, command_on, command_each, ues_of, tick, cu_cp_acts}
use Rattle.gnb_types.specs.declared.names.NodeId.TheVariants.{CuCp as cp_node}
use Rattle.run_defs.specs.Runs.{plain_way}
use Rattle.proof_run_steps.proofs.facts.Fits.{FitsAny, fits_if, any_then, ask_fits, at_once_fits, advance_fits, replied_fits, late_fits, fits_request, fits_reply}
use Rattle.law_tunnels_are_owned.proofs.link_items.Names.{link_items}

abbrev Record : Type 0
Record = CuCpRecord (Message Token) Token

module _ (node : NodeId) (taken : Option ℕ) where
  abbrev Fits : {R : Type 0} → Answer (Message Token) Pdu R → Type 0
  Fits a = FitsAny link_items node taken a

  either : (t : Bool) (x y : Answer (Message Token) Pdu Record) → Fits x → Fits y → Fits (if t then x else y)
  either t x y p q = fits_if link_items node taken (λ (r : Record). Unit {0}) t x y p q

  after : {R : Type 0} (a : Answer (Message Token) Pdu R) (f : R → Answer (Message Token) Pdu Record) → Fits a → ((r : R) → Fits (f r)) → Fits (a then f)
  after a f p q = any_then link_items node taken (λ (r : Record). Unit {0}) a f p q

  -- ---- whatever a row says

  says_one : (ue : UeId) (r : Record) (s : Action Token) → Fits (act_one plain_way ue r s)
  unfolding act_one
  says_one ue r (asks to m deadline awaited) =
      after (ask plain_way r.transactions (channel ue.0 to) (waiting_of plain_way m deadline awaited))
      (λ a. nothing (after_asked plain_way ue to (noted plain_way ue to awaited r) a))
      (ask_fits link_items node taken (λ l. tt) r.transactions (channel ue.0 to) (waiting_of plain_way m deadline awaited)) (λ a. (tt, tt))
  says_one ue r (cancels to m) =
      after (ask_at_once plain_way r.transactions (channel ue.0 to) (waiting_of plain_way m None false)) (λ a. nothing (after_asked plain_way ue to r a))
      (at_once_fits link_items node taken (λ l. tt) r.transactions (channel ue.0 to) (waiting_of plain_way m None false)) (λ a. (tt, tt))
  says_one ue r (replies to m) =
      after (replied plain_way r.transactions (channel ue.0 to) m) (λ t. nothing (with_transactions r t))
      (replied_fits link_items node taken (λ l. tt) r.transactions (channel ue.0 to) m) (λ t. (tt, tt))
  says_one ue r (replies_late to instance m) =
      after (replied_late plain_way r.transactions (channel ue.0 to) instance m) (λ t. nothing (with_transactions r t))
      (late_fits link_items node taken (λ l. tt) r.transactions (channel ue.0 to) instance m) (λ t. (tt, tt))
  says_one ue r (sends to m) = (tt, (tt, tt))
  says_one ue r (fails cause) = (tt, (tt, tt))
  says_one ue r (ignores reason) = (tt, (tt, tt))
  says_one ue r (refuses reason) = (tt, (tt, tt))
  says_one ue r forgets = (tt, tt)

  says_all : (ue : UeId) (ss : List (Action Token)) (r : Record) → Fits (act_all plain_way ue ss r)
  unfolding act_all
  says_all ue [] r = (tt, tt)
  says_all ue (s ∷ ss) r = after (act_one plain_way ue r s) (act_all plain_way ue ss) (says_one ue r s) (says_all ue ss)

  carried_out : (ue : UeId) (r : Record) (what : Row Token) → Fits (carry_out plain_way ue r what)
  unfolding carry_out
  carried_out ue r (row says t) = says_all ue says (with_terminal ue r t)
  carried_out ue r (row_spent counter) = tt

  -- ---- replies

  next_fits : (ue : UeId) (ch : Channel) (r : Record) → Fits (put_next plain_way ue ch r)
  next_fits ue ch r =
      after (advance plain_way r.transactions ch) (λ a. nothing (after_asked plain_way ue ch.peer r a)) (advance_fits link_items node taken (λ l. tt) r.transactions ch)
      (λ a. (tt, tt))

  answered_fits : (ue : UeId) (ch : Channel) (m : Message Token) (r : Record) (a : Answered plain_way) → Fits (answered_by plain_way ue ch m r a)
  answered_fits ue ch m r answers_none = next_fits ue ch _
  answered_fits ue ch m r (answers_with None) = (tt, (tt, tt))
  answered_fits ue ch m r (answers_with (Some what)) =
      after (carry_out plain_way ue (closed_at plain_way ch r) what) (put_next plain_way ue ch) (carried_out ue (closed_at plain_way ch r) what) (next_fits ue ch)

  reply_fits : (ue : UeId) (ch : Channel) (instance : ℕ) (m : Message Token) (r : Record) → Fits (reply_received plain_way ue ch instance m r)
  unfolding reply_received
  reply_fits ue ch instance m r = answered_fits ue ch m r (answer plain_way (at_of r ue) ch.peer instance m (terminal_of r ue))

  -- ---- requests and transfers

  set_up_fits : (from : NodeId) (m : Message Token) (r : Record) → Fits (set_up plain_way from m r)
  set_up_fits from m r =
      after (replied plain_way r.transactions (channel 0 from) m) (λ t. nothing (with_transactions (with_unit plain_way from r) t))
      (replied_fits link_items node taken (λ l. tt) r.transactions (channel 0 from) m) (λ t. (tt, tt))

  asked_fits : (from : NodeId) (m : Message Token) (r : Record) → Fits (asked plain_way from m r)
  asked_fits from (f1 (f1s.F1SetupRequest instance name)) r = set_up_fits from (f1 (f1s.F1SetupResponse instance)) r
  asked_fits from (e1 (e1s.E1SetupRequest instance name)) r = set_up_fits from (e1 (e1s.E1SetupResponse instance)) r
  asked_fits from (xn (xns.HandoverRequest ue instance epoch bearers sn quota peer du origin)) r = carried_out ue r _
  asked_fits from (xn (xns.SnStatusTransfer ue instance statuses)) r = carried_out ue r _
  asked_fits from (xn (xns.HandoverCancel ue instance)) r = carried_out ue r _
  asked_fits from (xn (xns.UeContextRelease ue instance)) r = carried_out ue r _
  asked_fits from m r = (tt, (tt, tt))

  transferred_fits : (from : NodeId) (m : Message Token) (r : Record) → Fits (transferred plain_way from m r)
  unfolding token_received
  transferred_fits from (f1 (f1s.UlRrcMessageTransfer ue container)) r = carried_out ue r _
  transferred_fits from m r = (tt, (tt, tt))

  control_by_fits : (from : NodeId) (m : Message Token) (r : Record) (k : Kind) → Fits (control_by plain_way from m r k)
  control_by_fits from m r (request ue i) =
      fits_request link_items node taken (λ l. tt) (λ (x : Record). Unit {0}) r r.transactions (channel ue from) i (λ t. asked plain_way from m (with_transactions r t)) tt
      (λ t. asked_fits from m (with_transactions r t))
  control_by_fits from m r (reply ue i) =
      fits_reply link_items node taken (λ l. tt) (λ (x : Record). Unit {0}) r r.transactions (channel ue from) i
      (reply_received plain_way (record { 0 = ue }) (channel ue from) i m r) tt (reply_fits (record { 0 = ue }) (channel ue from) i m r)
  control_by_fits from m r (transfer ue) = transferred_fits from m r

  control_fits : (from : NodeId) (m : Message Token) (r : Record) → Fits (control_received plain_way from m r)
  unfolding control_received
  control_fits from m r =
      either (shares_interface (cp_node r.gnb) from) (control_by plain_way from m r (kind_of m)) (drops Unexpected r) (control_by_fits from m r (kind_of m)) (tt, (tt, tt))

  -- ---- a tick, and the table

  due_one_fits : (r : Record) (d : Due (Message Token)) → Fits (due_one plain_way r d)
  due_one_fits r (repeats ch m) = (tt, (tt, tt))
  due_one_fits r (expires ch) = carried_out (record { 0 = ch.ue }) r _

  due_each_fits : (ds : List (Due (Message Token))) (r : Record) → Fits (due_each plain_way ds r)
  due_each_fits [] r = (tt, tt)
  due_each_fits (d ∷ ds) r = after (due_one plain_way r d) (due_each plain_way ds) (due_one_fits r d) (due_each_fits ds)

  command_each_fits : (ues : List UeId) (r : Record) → Fits (command_each plain_way ues r)
  command_each_fits [] r = (tt, tt)
  command_each_fits (ue ∷ ues) r =
      after (carry_out plain_way ue r (command_on plain_way (at_of r ue) (terminal_of r ue) (terminal_of r ue).context)) (command_each plain_way ues)
      (carried_out ue r (command_on plain_way (at_of r ue) (terminal_of r ue) (terminal_of r ue).context)) (command_each_fits ues)

  tick_fits : (r : Record) → Fits (tick plain_way r)
  unfolding tick
  tick_fits r =
      let on : Record = with_transactions r (record r.transactions { caller = after_tick r.transactions.caller }) in
      after (due_each plain_way (due r.transactions.caller) on) (λ s. command_each plain_way (ues_of plain_way s) s) (due_each_fits (due r.transactions.caller) on)
      (λ s. command_each_fits (ues_of plain_way s) s)

  pub cu_cp_fits : (r : Record) (input : Input Token Pdu) → Fits (cu_cp_acts plain_way r input)
  unfolding cu_cp_acts
  cu_cp_fits r (control_input from m) = control_fits from m r
  cu_cp_fits r (packet_input teid item) = (tt, (tt, tt))
  cu_cp_fits r (radio_input ue bearer dir pdu content) = (tt, (tt, tt))
  cu_cp_fits r (confirm_input ue bearer dir pdu content) = (tt, (tt, tt))
  cu_cp_fits r (offer_input ue bearer x) = (tt, (tt, tt))
  cu_cp_fits r tick_input = tick_fits r
  cu_cp_fits r (order_input (orders.Attach plan)) = carried_out plan.ue r _
  cu_cp_fits r (order_input (orders.Handover plan)) = carried_out plan.ue r _
  cu_cp_fits r (order_input (orders.Cancel ue)) = carried_out ue r _
  cu_cp_fits r (order_input (orders.Release ue)) = carried_out ue r _
  cu_cp_fits r (order_input order) = (tt, (tt, tt))
