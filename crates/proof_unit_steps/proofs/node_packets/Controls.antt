-- A CU-CP and the core: they put control messages, and the core End Markers; no packets.
use Rattle.std.proofs.Common.{ℕ, false, List, [], ◌∷◌, Option, Some, None}
use Rattle.std.specs.Prelude.{if◌then◌else◌}
use Rattle.std.specs.List.{AllByRecursion}
use Rattle.gnb_types.specs.declared.names.NodeId.{NodeId}
use Rattle.gnb_types.specs.declared.names.NodeId.TheVariants.{CuCp}
use Rattle.gnb_types.specs.declared.names.UeId.{UeId}
use Rattle.gnb_types.specs.declared.keys.Channel.{Channel}
use Rattle.gnb_types.specs.declared.plans.Peer.{Peer}
use Rattle.gnb_types.specs.declared.plans.Tunnel.{Tunnel}
use Rattle.gnb_types.specs.declared.inputs.Order.TheVariants as orders
use Rattle.gnb_types.specs.declared.reasons.DropReason.TheVariants.{Unexpected}
use Rattle.gnb_types.specs.Orders.{ue_cmp}
use Rattle.tables.specs.Tables.{find}
use Rattle.transaction_defs.specs.Callers.{due, Due, repeats, expires, after_tick}
use Rattle.message_types.specs.declared.f1.F1.TheVariants as f1s
use Rattle.message_types.specs.declared.e1.E1Message.TheVariants as e1s
use Rattle.message_types.specs.declared.xn.XnMessage.TheVariants as xns
use Rattle.message_types.specs.declared.xn.CoreMessage.TheVariants as cores
use Rattle.unit_defs.specs.Ways.{Message, f1, e1, xn, core, Input, control_input, tick_input, order_input, Way, Answer, ◌then◌, nothing, drops}
use Rattle.unit_defs.specs.Messages.{channel, shares_interface}
use Rattle.unit_defs.specs.Transactions.{Kind, request, reply, transfer, kind_of, ask, ask_at_once, advance, replied, replied_late}
use Rattle.unit_defs.specs.CuCpRecords.{CuCpRecord, terminal_of, with_terminal, with_transactions, waiting_of, after_asked, noted, Action, asks, cancels, replies, replies_late, sends, fails, ignores, refuses, forgets, act_one, act_all, Row, row, row_spent, carry_out}
use Rattle.unit_defs.specs.CuCp.{at_of, Answered, answers_none, answers_with, answer, put_next, closed_at, answered_by, reply_received, with_unit, set_up, asked, token_received, transferred, control_by, control_received, due_one, due_each, command_on, command_each, ues_of, tick, cu_cp_acts}
use Rattle.unit_defs.specs.Core.{CorePath, CoreRecord, end_of, old_ends, moved, switch_path, asked as core_asked, came, core_acts}
use Rattle.proof_unit_steps.specs.packets.Packets.{Property, OutputHas, OutputsHave}
use Rattle.proof_unit_steps.proofs.packets.Answers.{all_map, either as either_way, after_any, ask_has, advance_has, at_once_has, replied_has, late_has, on_request_has, on_reply_has}

module _ {M C P : Type 0} {way : Way M C P} (has : Property way) where
  abbrev Fits : Answer M P (CuCpRecord M C) → Type 0
  Fits a = OutputsHave has a

  after : {R : Type 0} (a : Answer M P R) (f : R → Answer M P (CuCpRecord M C)) → OutputsHave has a → ((r : R) → Fits (f r)) → Fits (a then f)
  after a f p q = after_any has (λ (r : CuCpRecord M C). Unit {0}) a f p q

  -- ---- whatever a row of a CU-CP says

  says_one : (ue : UeId) (r : CuCpRecord M C) (s : Action C) → Fits (act_one way ue r s)
  unfolding act_one
  says_one ue r (asks to m deadline awaited) =
      after (ask way r.transactions (channel ue.0 to) (waiting_of way m deadline awaited)) (λ a. nothing (after_asked way ue to (noted way ue to awaited r) a))
      (ask_has has r.transactions (channel ue.0 to) (waiting_of way m deadline awaited)) (λ a. (tt, tt))
  says_one ue r (cancels to m) =
      after (ask_at_once way r.transactions (channel ue.0 to) (waiting_of way m None false)) (λ a. nothing (after_asked way ue to r a))
      (at_once_has has r.transactions (channel ue.0 to) (waiting_of way m None false)) (λ a. (tt, tt))
  says_one ue r (replies to m) =
      after (replied way r.transactions (channel ue.0 to) m) (λ t. nothing (with_transactions r t)) (replied_has has r.transactions (channel ue.0 to) m) (λ t. (tt, tt))
  says_one ue r (replies_late to instance m) =
      after (replied_late way r.transactions (channel ue.0 to) instance m) (λ t. nothing (with_transactions r t))
      (late_has has r.transactions (channel ue.0 to) instance m) (λ t. (tt, tt))
  says_one ue r (sends to m) = (tt, (tt, tt))
  says_one ue r (fails cause) = (tt, (tt, tt))
  says_one ue r (ignores reason) = (tt, (tt, tt))
  says_one ue r (refuses reason) = (tt, (tt, tt))
  says_one ue r forgets = (tt, tt)

  says_all : (ue : UeId) (ss : List (Action C)) (r : CuCpRecord M C) → Fits (act_all way ue ss r)
  unfolding act_all
  says_all ue [] r = (tt, tt)
  says_all ue (s ∷ ss) r = after (act_one way ue r s) (act_all way ue ss) (says_one ue r s) (says_all ue ss)

  carried_out : (ue : UeId) (r : CuCpRecord M C) (what : Row C) → Fits (carry_out way ue r what)
  unfolding carry_out
  carried_out ue r (row says t) = says_all ue says (with_terminal ue r t)
  carried_out ue r (row_spent counter) = tt

  -- ---- replies, requests, transfers

  next_has : (ue : UeId) (ch : Channel) (r : CuCpRecord M C) → Fits (put_next way ue ch r)
  next_has ue ch r = after (advance way r.transactions ch) (λ a. nothing (after_asked way ue ch.peer r a)) (advance_has has r.transactions ch) (λ a. (tt, tt))

  answered_has : (ue : UeId) (ch : Channel) (m : Message C) (r : CuCpRecord M C) (a : Answered way) → Fits (answered_by way ue ch m r a)
  answered_has ue ch m r answers_none = next_has ue ch _
  answered_has ue ch m r (answers_with None) = (tt, (tt, tt))
  answered_has ue ch m r (answers_with (Some what)) =
      after (carry_out way ue (closed_at way ch r) what) (put_next way ue ch) (carried_out ue (closed_at way ch r) what) (next_has ue ch)

  reply_has : (ue : UeId) (ch : Channel) (instance : ℕ) (m : Message C) (r : CuCpRecord M C) → Fits (reply_received way ue ch instance m r)
  unfolding reply_received
  reply_has ue ch instance m r = answered_has ue ch m r (answer way (at_of r ue) ch.peer instance m (terminal_of r ue))

  set_up_has : (from : NodeId) (m : Message C) (r : CuCpRecord M C) → Fits (set_up way from m r)
  set_up_has from m r =
      after (replied way r.transactions (channel 0 from) m) (λ t. nothing (with_transactions (with_unit way from r) t)) (replied_has has r.transactions (channel 0 from) m)
      (λ t. (tt, tt))

  asked_has : (from : NodeId) (m : Message C) (r : CuCpRecord M C) → Fits (asked way from m r)
  asked_has from (f1 (f1s.F1SetupRequest instance name)) r = set_up_has from (f1 (f1s.F1SetupResponse instance)) r
  asked_has from (e1 (e1s.E1SetupRequest instance name)) r = set_up_has from (e1 (e1s.E1SetupResponse instance)) r
  asked_has from (xn (xns.HandoverRequest ue instance epoch bearers sn quota peer du origin)) r = carried_out ue r _
  asked_has from (xn (xns.SnStatusTransfer ue instance statuses)) r = carried_out ue r _
  asked_has from (xn (xns.HandoverCancel ue instance)) r = carried_out ue r _
  asked_has from (xn (xns.UeContextRelease ue instance)) r = carried_out ue r _
  asked_has from m r = (tt, (tt, tt))

  transferred_has : (from : NodeId) (m : Message C) (r : CuCpRecord M C) → Fits (transferred way from m r)
  unfolding token_received
  transferred_has from (f1 (f1s.UlRrcMessageTransfer ue container)) r = carried_out ue r _
  transferred_has from m r = (tt, (tt, tt))

  control_by_has : (from : NodeId) (m : Message C) (r : CuCpRecord M C) (k : Kind) → Fits (control_by way from m r k)
  control_by_has from m r (request ue i) =
      on_request_has has (λ (x : CuCpRecord M C). Unit {0}) r r.transactions (channel ue from) i (λ t. asked way from m (with_transactions r t)) tt
      (λ t. asked_has from m (with_transactions r t))
  control_by_has from m r (reply ue i) =
      on_reply_has has (λ (x : CuCpRecord M C). Unit {0}) r r.transactions (channel ue from) i (reply_received way (record { 0 = ue }) (channel ue from) i m r) tt
      (reply_has (record { 0 = ue }) (channel ue from) i m r)
  control_by_has from m r (transfer ue) = transferred_has from m r

  control_has : (from : NodeId) (m : Message C) (r : CuCpRecord M C) → Fits (control_received way from m r)
  unfolding control_received
  control_has from m r =
      either_way has (λ (x : CuCpRecord M C). Unit {0}) (shares_interface (CuCp r.gnb) from) (control_by way from m r (kind_of m)) (drops Unexpected r)
      (control_by_has from m r (kind_of m)) (tt, (tt, tt))

  -- ---- a tick, and the table

  due_one_has : (r : CuCpRecord M C) (d : Due M) → Fits (due_one way r d)
  due_one_has r (repeats ch m) = (tt, (tt, tt))
  due_one_has r (expires ch) = carried_out (record { 0 = ch.ue }) r _

  due_each_has : (ds : List (Due M)) (r : CuCpRecord M C) → Fits (due_each way ds r)
  due_each_has [] r = (tt, tt)
  due_each_has (d ∷ ds) r = after (due_one way r d) (due_each way ds) (due_one_has r d) (due_each_has ds)

  command_each_has : (ues : List UeId) (r : CuCpRecord M C) → Fits (command_each way ues r)
  command_each_has [] r = (tt, tt)
  command_each_has (ue ∷ ues) r =
      after (carry_out way ue r (command_on way (at_of r ue) (terminal_of r ue) (terminal_of r ue).context)) (command_each way ues)
      (carried_out ue r (command_on way (at_of r ue) (terminal_of r ue) (terminal_of r ue).context)) (command_each_has ues)

  tick_has : (r : CuCpRecord M C) → Fits (tick way r)
  unfolding tick
  tick_has r =
      let on : CuCpRecord M C = with_transactions r (record r.transactions { caller = after_tick r.transactions.caller }) in
      after (due_each way (due r.transactions.caller) on) (λ s. command_each way (ues_of way s) s) (due_each_has (due r.transactions.caller) on)
      (λ s. command_each_has (ues_of way s) s)

  pub cu_cp_has : (r : CuCpRecord M C) (input : Input C P) → Fits (cu_cp_acts way r input)
  unfolding cu_cp_acts
  cu_cp_has r (control_input from m) = control_has from m r
  cu_cp_has r tick_input = tick_has r
  cu_cp_has r (order_input (orders.Attach plan)) = carried_out plan.ue r _
  cu_cp_has r (order_input (orders.Handover plan)) = carried_out plan.ue r _
  cu_cp_has r (order_input (orders.Cancel ue)) = carried_out ue r _
  cu_cp_has r (order_input (orders.Release ue)) = carried_out ue r _
  cu_cp_has r input = (tt, (tt, tt))

  -- ---- the core

  abbrev CoreFits : Answer M P (CoreRecord M C) → Type 0
  CoreFits a = OutputsHave has a

  moved_has : (ue : UeId) (peer : Peer) (n3 : List Tunnel) (r : CoreRecord M C) → CoreFits (moved way ue peer n3 r)
  moved_has ue peer n3 r = (tt, by (find ue_cmp r.paths ue))
    where
      by : (path : Option CorePath) → AllByRecursion (OutputHas has) (old_ends way ue path)
      by None = tt
      by (Some path) = all_map (OutputHas has) (end_of way ue path.up) (λ t. tt) path.n3

  core_asked_has : (ch : Channel) (m : Message C) (r : CoreRecord M C) → CoreFits (core_asked way ch m r)
  unfolding switch_path
  core_asked_has ch (core (cores.PathSwitchRequest ue instance peer n3)) r =
      after_any has (λ (x : CoreRecord M C). Unit {0}) (replied way r.transactions ch (core (cores.PathSwitchAcknowledge ue instance)))
      (λ t. moved way ue peer n3 (record r { transactions = t })) (replied_has has r.transactions ch (core (cores.PathSwitchAcknowledge ue instance)))
      (λ t. moved_has ue peer n3 (record r { transactions = t }))
  core_asked_has ch m r = (tt, (tt, tt))

  came_has : (from : NodeId) (m : Message C) (r : CoreRecord M C) (k : Kind) → CoreFits (came way from m r k)
  came_has from m r (request ue i) =
      on_request_has has (λ (x : CoreRecord M C). Unit {0}) r r.transactions (channel ue from) i
      (λ t. core_asked way (channel ue from) m (record r { transactions = t })) tt (λ t. core_asked_has (channel ue from) m (record r { transactions = t }))
  came_has from m r (reply ue i) = (tt, (tt, tt))
  came_has from m r (transfer ue) = (tt, (tt, tt))

  pub core_has : (r : CoreRecord M C) (from : NodeId) (m : Message C) → CoreFits (core_acts way r from m)
  unfolding core_acts
  core_has r (CuCp gnb) m = came_has (CuCp gnb) m r (kind_of m)
  core_has r from m = (tt, (tt, tt))
