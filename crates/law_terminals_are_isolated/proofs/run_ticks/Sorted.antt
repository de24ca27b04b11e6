-- On any input a CU-CP keeps its terminals in ascending order.
use Rattle.std.proofs.Common.{ℕ, Bool, true, false, List, [], ◌∷◌, Option, Some, None}
use Rattle.gnb_types.specs.declared.inputs.Order.{Order}
use Rattle.gnb_types.specs.declared.inputs.Order.TheVariants as orders
use Rattle.gnb_types.specs.declared.keys.Channel.{Channel}
use Rattle.gnb_types.specs.declared.names.NodeId.{NodeId}
use Rattle.gnb_types.specs.declared.names.NodeId.TheVariants.{CuCp as cp_node}
use Rattle.gnb_types.specs.declared.names.UeId.{UeId}
use Rattle.gnb_types.specs.declared.plans.Plan.{Plan}
use Rattle.gnb_types.specs.Orders.{ue_cmp}
use Rattle.message_types.specs.declared.f1.F1.TheVariants as f1s
use Rattle.message_types.specs.declared.e1.E1Message.TheVariants as e1s
use Rattle.message_types.specs.declared.xn.XnMessage.TheVariants as xns
use Rattle.tables.specs.Tables.{IsSorted}
use Rattle.transaction_defs.specs.Callers.{due, Due, repeats, expires}
use Rattle.unit_defs.specs.Ways.{Message, f1, e1, xn, Input, control_input, packet_input, radio_input, confirm_input, offer_input, tick_input, order_input, Way, Answer, nothing}
use Rattle.unit_defs.specs.Messages.{channel, shares_interface}
use Rattle.unit_defs.specs.Static.{cu_cp_context, cu_cp_placed}
use Rattle.unit_defs.specs.Transactions.{Kind, request, reply, transfer, kind_of, Asked, ask, ask_at_once, advance, replied, replied_late}
use Rattle.unit_defs.specs.CuCpRecords.{Attempt, CuCpRecord, terminal_of, with_transactions, Action, asks, cancels, replies, replies_late, sends, fails, ignores, refuses, forgets, Row, row, row_spent, with_terminal, awaiting, begun, on_context, with_attempt, waiting_of, after_begun, after_asked, noted, act_one, act_all, carry_out}
use Rattle.unit_defs.proofs.Terminals.{kept_sorted}
use Rattle.unit_defs.specs.CuCp.{at_of, Answered, answers_none, answers_with, answer, after_failed_setup, put_next, closed_at, answered_by, reply_received, with_unit, set_up, asked, token_received, transferred, control_by, control_received, due_one, due_each, command_on, command_each, ues_of, tick, ordered, cu_cp_acts}
use Rattle.proof_unit_steps.specs.answers.After.{HoldsAfter}
use Rattle.proof_unit_steps.proofs.answers.Answers.{holds_if, holds_then, any_then, holds_request, holds_reply}

module _ {M C P : Type 0} (way : Way M C P) where
  abbrev pub Ordered : CuCpRecord M C → Type 0
  Ordered r = IsSorted ue_cmp r.terminals

  abbrev Stays : Answer M P (CuCpRecord M C) → Type 0
  Stays a = HoldsAfter Ordered a

  -- ---- a row is carried out

  attempt_stays : (ue : UeId) (f : Attempt → Attempt) (r : CuCpRecord M C) → Ordered r → Ordered (with_attempt ue f r)
  attempt_stays ue f r h = kept_sorted r.terminals ue (record (terminal_of r ue) { context = on_context f (terminal_of r ue).context }) h

  noted_stays : (ue : UeId) (node : NodeId) (b : Bool) (r : CuCpRecord M C) → Ordered r → Ordered (noted way ue node b r)
  noted_stays ue node true r h = attempt_stays ue (λ a. awaiting a node) r h
  noted_stays ue node false r h = h

  after_stays : (ue : UeId) (node : NodeId) (r : CuCpRecord M C) (a : Asked M C) → Ordered r → Ordered (after_asked way ue node r a)
  after_stays ue node r a h = by a.awaited
    where
      by : (o : Option ℕ) → Ordered (after_begun way ue node (with_transactions r a.transactions) o)
      by None = h
      by (Some instance) = attempt_stays ue (λ x. begun x node instance) (with_transactions r a.transactions) h

  say_stays : (ue : UeId) (s : Action C) (r : CuCpRecord M C) → Ordered r → Stays (act_one way ue r s)
  unfolding act_one
  say_stays ue (asks to m deadline awaited) r h =
      any_then Ordered (ask way r.transactions (channel ue.0 to) (waiting_of way m deadline awaited))
      (λ a. nothing (after_asked way ue to (noted way ue to awaited r) a)) (λ a. after_stays ue to (noted way ue to awaited r) a (noted_stays ue to awaited r h))
  say_stays ue (cancels to m) r h =
      any_then Ordered (ask_at_once way r.transactions (channel ue.0 to) (waiting_of way m None false)) (λ a. nothing (after_asked way ue to r a))
      (λ a. after_stays ue to r a h)
  say_stays ue (replies to m) r h =
      any_then Ordered (replied way r.transactions (channel ue.0 to) m) (λ t. nothing (with_transactions r t)) (λ t. h)
  say_stays ue (replies_late to instance m) r h =
      any_then Ordered (replied_late way r.transactions (channel ue.0 to) instance m) (λ t. nothing (with_transactions r t)) (λ t. h)
  say_stays ue (sends to m) r h = h
  say_stays ue (fails cause) r h = h
  say_stays ue (ignores reason) r h = h
  say_stays ue (refuses reason) r h = h
  say_stays ue forgets r h = h

  says_stay : (ue : UeId) (ss : List (Action C)) (r : CuCpRecord M C) → Ordered r → Stays (act_all way ue ss r)
  unfolding act_all
  says_stay ue [] r h = h
  says_stay ue (s ∷ ss) r h = holds_then Ordered Ordered (act_one way ue r s) (act_all way ue ss) (say_stays ue s r h) (λ q k. says_stay ue ss q k)

  carry_stays : (ue : UeId) (x : Row C) (r : CuCpRecord M C) → Ordered r → Stays (carry_out way ue r x)
  unfolding carry_out
  carry_stays ue (row says after) r h = says_stay ue says (with_terminal ue r after) (kept_sorted r.terminals ue after h)
  carry_stays ue (row_spent counter) r h = tt

  -- ---- an answer

  next_stays : (ue : UeId) (c : Channel) (r : CuCpRecord M C) → Ordered r → Stays (put_next way ue c r)
  next_stays ue c r h = any_then Ordered (advance way r.transactions c) (λ a. nothing (after_asked way ue c.peer r a)) (λ a. after_stays ue c.peer r a h)

  answered_stays : (ue : UeId) (c : Channel) (m : Message C) (x : Answered way) (r : CuCpRecord M C) → Ordered r → Stays (answered_by way ue c m r x)
  answered_stays ue c m answers_none r h =
      next_stays ue c (with_transactions (closed_at way c r) (after_failed_setup way m c (closed_at way c r).transactions)) h
  answered_stays ue c m (answers_with None) r h = h
  answered_stays ue c m (answers_with (Some taken)) r h =
      holds_then Ordered Ordered (carry_out way ue (closed_at way c r) taken) (put_next way ue c) (carry_stays ue taken (closed_at way c r) h)
      (λ q k. next_stays ue c q k)

  reply_stays : (ue : UeId) (c : Channel) (instance : ℕ) (m : Message C) (r : CuCpRecord M C) → Ordered r → Stays (reply_received way ue c instance m r)
  unfolding reply_received
  reply_stays ue c instance m r h = answered_stays ue c m (answer way (at_of r ue) c.peer instance m (terminal_of r ue)) r h

  -- ---- requests and tokens

  set_up_stays : (from : NodeId) (m : Message C) (r : CuCpRecord M C) → Ordered r → Stays (set_up way from m r)
  set_up_stays from m r h =
      any_then Ordered (replied way r.transactions (channel 0 from) m) (λ t. nothing (with_transactions (with_unit way from r) t)) (λ t. h)

  asked_stays : (from : NodeId) (m : Message C) (r : CuCpRecord M C) → Ordered r → Stays (asked way from m r)
  asked_stays from (f1 (f1s.F1SetupRequest i name)) r h = set_up_stays from (f1 (f1s.F1SetupResponse i)) r h
  asked_stays from (e1 (e1s.E1SetupRequest i name)) r h = set_up_stays from (e1 (e1s.E1SetupResponse i)) r h
  asked_stays from (xn (xns.HandoverRequest ue i epoch bearers sn quota peer du origin)) r h = carry_stays ue _ r h
  asked_stays from (xn (xns.SnStatusTransfer ue i statuses)) r h = carry_stays ue _ r h
  asked_stays from (xn (xns.HandoverCancel ue i)) r h = carry_stays ue _ r h
  asked_stays from (xn (xns.UeContextRelease ue i)) r h = carry_stays ue _ r h
  asked_stays from m r h = h

  token_stays : (ue : UeId) (from : NodeId) (container : C) (r : CuCpRecord M C) → Ordered r → Stays (token_received way ue from container r)
  unfolding token_received
  token_stays ue from container r h = carry_stays ue _ r h

  transferred_stays : (from : NodeId) (m : Message C) (r : CuCpRecord M C) → Ordered r → Stays (transferred way from m r)
  transferred_stays from (f1 (f1s.UlRrcMessageTransfer ue container)) r h = token_stays ue from container r h
  transferred_stays from m r h = h

  by_stays : (from : NodeId) (m : Message C) (k : Kind) (r : CuCpRecord M C) → Ordered r → Stays (control_by way from m r k)
  by_stays from m (request n instance) r h =
      holds_request way Ordered r r.transactions (channel n from) instance (λ t. asked way from m (with_transactions r t)) h
      (λ t. asked_stays from m (with_transactions r t) h)
  by_stays from m (reply n instance) r h =
      holds_reply way Ordered r r.transactions (channel n from) instance (reply_received way (record { 0 = n }) (channel n from) instance m r) h
      (reply_stays (record { 0 = n }) (channel n from) instance m r h)
  by_stays from m (transfer n) r h = transferred_stays from m r h

  control_stays : (from : NodeId) (m : Message C) (r : CuCpRecord M C) → Ordered r → Stays (control_received way from m r)
  unfolding control_received
  control_stays from m r h = holds_if Ordered (shares_interface (cp_node r.gnb) from) _ _ (by_stays from m (kind_of m) r h) h

  -- ---- a tick

  due_stays : (d : Due M) (r : CuCpRecord M C) → Ordered r → Stays (due_one way r d)
  due_stays (repeats c m) r h = h
  due_stays (expires c) r h = carry_stays (record { 0 = c.ue }) _ r h

  dues_stay : (ds : List (Due M)) (r : CuCpRecord M C) → Ordered r → Stays (due_each way ds r)
  dues_stay [] r h = h
  dues_stay (d ∷ ds) r h = holds_then Ordered Ordered (due_one way r d) (due_each way ds) (due_stays d r h) (λ q k. dues_stay ds q k)

  commands_stay : (ues : List UeId) (r : CuCpRecord M C) → Ordered r → Stays (command_each way ues r)
  commands_stay [] r h = h
  commands_stay (ue ∷ ues) r h =
      holds_then Ordered Ordered (carry_out way ue r (command_on way (at_of r ue) (terminal_of r ue) (terminal_of r ue).context)) (command_each way ues)
      (carry_stays ue _ r h) (λ q k. commands_stay ues q k)

  tick_stays : (r : CuCpRecord M C) → Ordered r → Stays (tick way r)
  unfolding tick
  tick_stays r h =
      holds_then Ordered Ordered _ (λ s. command_each way (ues_of way s) s) (dues_stay (due r.transactions.caller) _ h) (λ q k. commands_stay (ues_of way q) q k)

  -- ---- the table

  order_stays : (order : Order) (r : CuCpRecord M C) → Ordered r → Stays (ordered way order r)
  order_stays (orders.Attach plan) r h = carry_stays plan.ue _ r h
  order_stays (orders.Handover plan) r h = carry_stays plan.ue _ r h
  order_stays (orders.Cancel ue) r h = carry_stays ue _ r h
  order_stays (orders.Release ue) r h = carry_stays ue _ r h
  order_stays order r h = h

  pub cp_stays : (input : Input C P) (r : CuCpRecord M C) → Ordered r → Stays (cu_cp_acts way r input)
  unfolding cu_cp_acts
  cp_stays (control_input from m) r h = control_stays from m r h
  cp_stays tick_input r h = tick_stays r h
  cp_stays (order_input order) r h = order_stays order r h
  cp_stays (packet_input teid item) r h = h
  cp_stays (radio_input ue bearer dir pdu content) r h = h
  cp_stays (confirm_input ue bearer dir pdu content) r h = h
  cp_stays (offer_input ue bearer p) r h = h

  pub placed_stays : (r : CuCpRecord M C) (plan : Plan) → Ordered r → Ordered (cu_cp_placed r plan)
  unfolding cu_cp_placed
  placed_stays r plan h = kept_sorted r.terminals plan.ue (record { context = Some (cu_cp_context plan); taken = None }) h
