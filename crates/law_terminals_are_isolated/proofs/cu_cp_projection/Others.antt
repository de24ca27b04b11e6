-- What a CU-CP does for a terminal: all that it puts out is the terminal's, and the projections of the others stay.
use Rattle.std.proofs.Common.{◌≡◌, ℕ, Bool, true, false, List, [], ◌∷◌, Option, Some, None, refl, ap, ◌∙◌, subst}
use Rattle.std.specs.Prelude.{if◌then◌else◌}
use Rattle.law_terminals_are_isolated.specs.projections.Steps.{PutsFor, StaysFor}
use Rattle.law_terminals_are_isolated.proofs.projections.Answers.{puts_then, puts_if}
use Rattle.law_terminals_are_isolated.proofs.projections.Tables.{apart_numbers, apart_ues}
use Rattle.law_terminals_are_isolated.proofs.projections.Apart.{Leaves, closed_leaves, waiting_leaves, ask_asks, ask_at_once_asks, advance_asks, replied_puts, replied_late_puts, on_request_puts, on_reply_puts}
use Rattle.law_terminals_are_isolated.specs.cu_cp_projection.CuCps.{CuCpProjection, cu_cp_projection, cu_cp_ue}
use Rattle.law_terminals_are_isolated.proofs.cu_cp_projection.Forgotten.{waits_of_others}
use Rattle.gnb_types.specs.declared.names.NodeId.{NodeId}
use Rattle.gnb_types.specs.declared.names.NodeId.TheVariants.{CuCp as cp_node, CuUp, Du, Core, Ue}
use Rattle.gnb_types.specs.declared.names.UeId.{UeId}
use Rattle.gnb_types.specs.declared.inputs.Order.{Order}
use Rattle.gnb_types.specs.declared.inputs.Order.TheVariants as orders
use Rattle.gnb_types.specs.declared.reasons.DropReason.TheVariants.{Unexpected}
use Rattle.message_types.specs.declared.f1.F1.TheVariants as f1s
use Rattle.message_types.specs.declared.e1.E1Message.TheVariants as e1s
use Rattle.message_types.specs.declared.xn.XnMessage.TheVariants as xns
use Rattle.unit_defs.specs.Ways.{Message, f1, e1, xn, Input, control_input, order_input, Way, Answer, ◌then◌, nothing, drops}
use Rattle.unit_defs.specs.Messages.{channel, shares_interface}
use Rattle.unit_defs.specs.Transactions.{Kind, request, reply, transfer, kind_of, Transactions, Asked, waits_at, with_waiting, ask, ask_at_once, advance, replied, replied_late}
use Rattle.unit_defs.specs.CuCpRecords.{Attempt, CuCpTerminal, CuCpRecord, terminal_in, terminal_of, with_terminal, with_transactions, Action, asks, cancels, replies, replies_late, sends, fails, ignores, refuses, forgets, Row, row, row_spent, awaiting, begun, on_context, with_attempt, waiting_of, after_begun, after_asked, noted, forgotten, act_one, act_all, carry_out}
use Rattle.unit_defs.proofs.Terminals.{kept_apart}
use Rattle.unit_defs.specs.CuCp.{at_of, Answered, answers_none, answers_with, answer, without_release, is_setup_failure, after_failed_setup, put_next, closed_at, answered_by, reply_received, with_unit, set_up, asked, token_received, transferred, control_by, control_received, ordered, cu_cp_acts}
use Rattle.law_terminals_are_isolated.specs.projections.Projections.{requests_of, ue_in, message_ue, order_ue}

module _ {M C P : Type 0} (way : Way M C P) where
  abbrev pub Stays : UeId → CuCpRecord M C → CuCpRecord M C → Type 0
  Stays ue r q = StaysFor cu_cp_projection ue r q

  abbrev pub Steps : UeId → CuCpRecord M C → Answer M P (CuCpRecord M C) → Type 0
  Steps ue r a = PutsFor ue.0 (Stays ue r) a

  itself : (ue : UeId) (r : CuCpRecord M C) → Stays ue r r
  itself ue r other apart = refl

  -- ---- what is kept

  with_stays : (ue : UeId) (r q : CuCpRecord M C) (t : Transactions M C) → Stays ue r q → Leaves way ue.0 q.transactions t → Stays ue r (with_transactions q t)
  with_stays ue r q t stays leaves other apart = λ i. record {
    terminal = (stays other apart i).terminal;
    requests = (leaves other.0 (apart_numbers other ue apart) ∙ ap (λ (s : CuCpProjection M C). s.requests) (stays other apart)) i;
  }

  kept_stays : (ue : UeId) (t : CuCpTerminal) (r q : CuCpRecord M C) → Stays ue r q → Stays ue r (with_terminal ue q t)
  kept_stays ue t r q stays other apart = λ i. record {
    terminal = (ap terminal_in (kept_apart q.terminals ue other t (apart_ues other ue apart))
        ∙ ap (λ (s : CuCpProjection M C). s.terminal) (stays other apart)) i;
    requests = (stays other apart i).requests;
  }

  attempt_stays : (ue : UeId) (f : Attempt → Attempt) (r q : CuCpRecord M C) → Stays ue r q → Stays ue r (with_attempt ue f q)
  attempt_stays ue f r q stays = kept_stays ue (record (terminal_of q ue) { context = on_context f (terminal_of q ue).context }) r q stays

  noted_stays : (ue : UeId) (node : NodeId) (awaited : Bool) (r q : CuCpRecord M C) → Stays ue r q → Stays ue r (noted way ue node awaited q)
  noted_stays ue node true r q stays = attempt_stays ue (λ a. awaiting a node) r q stays
  noted_stays ue node false r q stays = stays

  after_stays : (ue : UeId) (node : NodeId) (r q : CuCpRecord M C) (a : Asked M C) → Stays ue r q → Leaves way ue.0 q.transactions a.transactions
      → Stays ue r (after_asked way ue node q a)
  after_stays ue node r q a stays leaves = by a.awaited
    where
      by : (o : Option ℕ) → Stays ue r (after_begun way ue node (with_transactions q a.transactions) o)
      by None = with_stays ue r q a.transactions stays leaves
      by (Some instance) =
          attempt_stays ue (λ x. begun x node instance) r (with_transactions q a.transactions) (with_stays ue r q a.transactions stays leaves)

  forgotten_leaves : (ue : UeId) (t : Transactions M C) → Leaves way ue.0 t (forgotten way ue t)
  forgotten_leaves ue t other apart = λ i. record (requests_of other t) {
    waiting = λ peer. waits_of_others way ue (channel other peer) apart t.waiting i;
  }

  -- ---- a row is carried out

  say_steps : (ue : UeId) (s : Action C) (r q : CuCpRecord M C) → Stays ue r q → Steps ue r (act_one way ue q s)
  unfolding act_one
  say_steps ue (asks to m deadline awaited) r q stays =
      puts_then ue.0 _ (Stays ue r) (ask way q.transactions (channel ue.0 to) (waiting_of way m deadline awaited))
      (λ a. nothing (after_asked way ue to (noted way ue to awaited q) a)) (ask_asks way q.transactions (channel ue.0 to) (waiting_of way m deadline awaited))
      (λ a leaves. (tt, after_stays ue to r (noted way ue to awaited q) a (noted_stays ue to awaited r q stays) (noted_leaves awaited a leaves)))
    where
      noted_leaves : (b : Bool) (a : Asked M C) → Leaves way ue.0 q.transactions a.transactions
          → Leaves way ue.0 (noted way ue to b q).transactions a.transactions
      noted_leaves true a leaves = leaves
      noted_leaves false a leaves = leaves
  say_steps ue (cancels to m) r q stays =
      puts_then ue.0 _ (Stays ue r) (ask_at_once way q.transactions (channel ue.0 to) (waiting_of way m None false)) (λ a. nothing (after_asked way ue to q a))
      (ask_at_once_asks way q.transactions (channel ue.0 to) (waiting_of way m None false)) (λ a leaves. (tt, after_stays ue to r q a stays leaves))
  say_steps ue (replies to m) r q stays =
      puts_then ue.0 (Leaves way ue.0 q.transactions) (Stays ue r) (replied way q.transactions (channel ue.0 to) m) (λ t. nothing (with_transactions q t))
      (replied_puts way q.transactions (channel ue.0 to) m) (λ t leaves. (tt, with_stays ue r q t stays leaves))
  say_steps ue (replies_late to instance m) r q stays =
      puts_then ue.0 (Leaves way ue.0 q.transactions) (Stays ue r) (replied_late way q.transactions (channel ue.0 to) instance m)
      (λ t. nothing (with_transactions q t))
      (replied_late_puts way q.transactions (channel ue.0 to) instance m) (λ t leaves. (tt, with_stays ue r q t stays leaves))
  say_steps ue (sends to m) r q stays = ((refl, tt), stays)
  say_steps ue (fails cause) r q stays = ((refl, tt), stays)
  say_steps ue (ignores reason) r q stays = ((tt, tt), stays)
  say_steps ue (refuses reason) r q stays = ((tt, tt), stays)
  say_steps ue forgets r q stays = (tt, with_stays ue r q (forgotten way ue q.transactions) stays (forgotten_leaves ue q.transactions))

  says_steps : (ue : UeId) (ss : List (Action C)) (r q : CuCpRecord M C) → Stays ue r q → Steps ue r (act_all way ue ss q)
  unfolding act_all
  says_steps ue [] r q stays = (tt, stays)
  says_steps ue (s ∷ ss) r q stays =
      puts_then ue.0 (Stays ue r) (Stays ue r) (act_one way ue q s) (act_all way ue ss) (say_steps ue s r q stays) (λ a there. says_steps ue ss r a there)

  pub carry_steps : (ue : UeId) (x : Row C) (r q : CuCpRecord M C) → Stays ue r q → Steps ue r (carry_out way ue q x)
  unfolding carry_out
  carry_steps ue (row says after) r q stays = says_steps ue says r (with_terminal ue q after) (kept_stays ue after r q stays)
  carry_steps ue (row_spent counter) r q stays = tt

  -- ---- an answer

  next_steps : (ue : UeId) (from : NodeId) (r q : CuCpRecord M C) → Stays ue r q → Steps ue r (put_next way ue (channel ue.0 from) q)
  next_steps ue from r q stays =
      puts_then ue.0 _ (Stays ue r) (advance way q.transactions (channel ue.0 from)) (λ a. nothing (after_asked way ue from q a))
      (advance_asks way q.transactions (channel ue.0 from)) (λ a leaves. (tt, after_stays ue from r q a stays leaves))

  closed_stays : (ue : UeId) (from : NodeId) (r q : CuCpRecord M C) → Stays ue r q → Stays ue r (closed_at way (channel ue.0 from) q)
  closed_stays ue from r q stays = with_stays ue r q _ stays (closed_leaves way q.transactions (channel ue.0 from))

  failed_leaves : (ue : UeId) (from : NodeId) (m : Message C) (t : Transactions M C) → Leaves way ue.0 t (after_failed_setup way m (channel ue.0 from) t)
  failed_leaves ue from m t = by (is_setup_failure way m)
    where
      by : (b : Bool) → Leaves way ue.0 t
          (if b then with_waiting t (channel ue.0 from) (without_release way (waits_at t (channel ue.0 from))) else t)
      by true = waiting_leaves way t (channel ue.0 from) (without_release way (waits_at t (channel ue.0 from)))
      by false = λ other apart. refl

  answered_steps : (ue : UeId) (from : NodeId) (m : Message C) (x : Answered way) (r q : CuCpRecord M C) → Stays ue r q
      → Steps ue r (answered_by way ue (channel ue.0 from) m q x)
  answered_steps ue from m answers_none r q stays =
      let a : CuCpRecord M C = closed_at way (channel ue.0 from) q in
      next_steps ue from r _ (with_stays ue r a _ (closed_stays ue from r q stays) (failed_leaves ue from m a.transactions))
  answered_steps ue from m (answers_with None) r q stays = ((tt, tt), stays)
  answered_steps ue from m (answers_with (Some taken)) r q stays =
      puts_then ue.0 (Stays ue r) (Stays ue r) (carry_out way ue (closed_at way (channel ue.0 from) q) taken) (put_next way ue (channel ue.0 from))
      (carry_steps ue taken r (closed_at way (channel ue.0 from) q) (closed_stays ue from r q stays)) (λ a there. next_steps ue from r a there)

  reply_steps : (ue : UeId) (from : NodeId) (instance : ℕ) (m : Message C) (r q : CuCpRecord M C) → Stays ue r q
      → Steps ue r (reply_received way ue (channel ue.0 from) instance m q)
  unfolding reply_received
  reply_steps ue from instance m r q stays = answered_steps ue from m (answer way (at_of q ue) from instance m (terminal_of q ue)) r q stays

  -- ---- requests

  abbrev at : ℕ → UeId
  at n = record { 0 = n }

  set_up_steps : (from : NodeId) (m : Message C) (r q : CuCpRecord M C) → Stays (at 0) r q → Steps (at 0) r (set_up way from m q)
  set_up_steps from m r q stays =
      puts_then 0 (Leaves way 0 q.transactions) (Stays (at 0) r) (replied way q.transactions (channel 0 from) m)
      (λ t. nothing (with_transactions (with_unit way from q) t)) (replied_puts way q.transactions (channel 0 from) m)
      (λ t leaves. (tt, with_stays (at 0) r (with_unit way from q) t stays leaves))

  request_steps : (from : NodeId) (m : Message C) (n instance : ℕ) → kind_of m ≡ request n instance → (r q : CuCpRecord M C) → Stays (at n) r q
      → Steps (at n) r (asked way from m q)
  unfolding kind_of
  request_steps from (f1 (f1s.F1SetupRequest i name)) n instance k r q stays =
      subst (λ (x : ℕ). Stays (at x) r q → Steps (at x) r (asked way from (f1 (f1s.F1SetupRequest i name)) q))
      (ap (λ (x : Kind). (ue_in x).0) k) (set_up_steps from (f1 (f1s.F1SetupResponse i)) r q) stays
  request_steps from (e1 (e1s.E1SetupRequest i name)) n instance k r q stays =
      subst (λ (x : ℕ). Stays (at x) r q → Steps (at x) r (asked way from (e1 (e1s.E1SetupRequest i name)) q))
      (ap (λ (x : Kind). (ue_in x).0) k) (set_up_steps from (e1 (e1s.E1SetupResponse i)) r q) stays
  request_steps from (xn (xns.HandoverRequest ue i epoch bearers sn quota peer du origin)) n instance k r q stays =
      subst (λ (x : ℕ). Stays (at x) r q → Steps (at x) r (asked way from (xn (xns.HandoverRequest ue i epoch bearers sn quota peer du origin)) q))
      (ap (λ (x : Kind). (ue_in x).0) k) (carry_steps ue _ r q) stays
  request_steps from (xn (xns.SnStatusTransfer ue i statuses)) n instance k r q stays =
      subst (λ (x : ℕ). Stays (at x) r q → Steps (at x) r (asked way from (xn (xns.SnStatusTransfer ue i statuses)) q))
      (ap (λ (x : Kind). (ue_in x).0) k) (carry_steps ue _ r q) stays
  request_steps from (xn (xns.HandoverCancel ue i)) n instance k r q stays =
      subst (λ (x : ℕ). Stays (at x) r q → Steps (at x) r (asked way from (xn (xns.HandoverCancel ue i)) q))
      (ap (λ (x : Kind). (ue_in x).0) k) (carry_steps ue _ r q) stays
  request_steps from (xn (xns.UeContextRelease ue i)) n instance k r q stays =
      subst (λ (x : ℕ). Stays (at x) r q → Steps (at x) r (asked way from (xn (xns.UeContextRelease ue i)) q))
      (ap (λ (x : Kind). (ue_in x).0) k) (carry_steps ue _ r q) stays
  request_steps from m n instance k r q stays = ((tt, tt), stays)

  token_steps : (ue : UeId) (from : NodeId) (container : C) (r q : CuCpRecord M C) → Stays ue r q → Steps ue r (token_received way ue from container q)
  unfolding token_received
  token_steps ue from container r q stays = carry_steps ue _ r q stays

  transferred_steps : (from : NodeId) (m : Message C) (n : ℕ) → kind_of m ≡ transfer n → (r q : CuCpRecord M C) → Stays (at n) r q
      → Steps (at n) r (transferred way from m q)
  unfolding kind_of
  transferred_steps from (f1 (f1s.UlRrcMessageTransfer ue container)) n k r q stays =
      subst (λ (x : ℕ). Stays (at x) r q → Steps (at x) r (token_received way ue from container q))
      (ap (λ (x : Kind). (ue_in x).0) k) (token_steps ue from container r q) stays
  transferred_steps from m n k r q stays = ((tt, tt), stays)

  -- ---- a control message, and the table

  by_steps : (from : NodeId) (m : Message C) (k : Kind) → kind_of m ≡ k → (r : CuCpRecord M C) → Steps (ue_in k) r (control_by way from m r k)
  by_steps from m (request n instance) k r =
      on_request_puts way (Stays (at n) r) r r.transactions (channel n from) instance (itself (at n) r) _
      (λ t leaves. request_steps from m n instance k r (with_transactions r t) (with_stays (at n) r r t (itself (at n) r) leaves))
  by_steps from m (reply n instance) k r =
      on_reply_puts way (Stays (at n) r) r r.transactions (channel n from) instance (itself (at n) r) _ (reply_steps (at n) from instance m r r (itself (at n) r))
  by_steps from m (transfer n) k r = transferred_steps from m n k r r (itself (at n) r)

  shared_steps : (from : NodeId) (m : Message C) (r : CuCpRecord M C) → Steps (ue_in (kind_of m)) r
      (if shares_interface (cp_node r.gnb) from then control_by way from m r (kind_of m) else drops Unexpected r)
  shared_steps from m r =
      puts_if (ue_in (kind_of m)).0 (Stays (ue_in (kind_of m)) r) (shares_interface (cp_node r.gnb) from) _ _ (by_steps from m (kind_of m) refl r)
      ((tt, tt), itself (ue_in (kind_of m)) r)

  control_steps : (from : NodeId) (m : Message C) (r : CuCpRecord M C) → Steps (message_ue from m) r (control_received way from m r)
  unfolding control_received
  control_steps (cp_node gnb) m r = shared_steps (cp_node gnb) m r
  control_steps (CuUp gnb number) m r = shared_steps (CuUp gnb number) m r
  control_steps (Du gnb number) m r = shared_steps (Du gnb number) m r
  control_steps Core m r = shared_steps Core m r
  control_steps (Ue ue) m r = ((tt, tt), itself (at ue) r)

  order_steps : (order : Order) (r : CuCpRecord M C) → Steps (order_ue order) r (ordered way order r)
  order_steps (orders.Attach plan) r = carry_steps plan.ue _ r r (itself plan.ue r)
  order_steps (orders.Handover plan) r = carry_steps plan.ue _ r r (itself plan.ue r)
  order_steps (orders.Cancel ue) r = carry_steps ue _ r r (itself ue r)
  order_steps (orders.Release ue) r = carry_steps ue _ r r (itself ue r)
  order_steps order r = ((tt, tt), itself _ r)

  abbrev Acts : Input C P → CuCpRecord M C → UeId → Type 0
  Acts input r ue = Steps ue r (cu_cp_acts way r input)

  some_ue : (a b : UeId) → Some a ≡ Some b → a ≡ b
  some_ue a b e = cc

  given : (input : Input C P) (r : CuCpRecord M C) (own ue : UeId) → Some own ≡ Some ue → Acts input r own → Acts input r ue
  given input r own ue is acts = subst (Acts input r) (some_ue own ue is) acts

  pub cp_steps : (ue : UeId) (input : Input C P) (r : CuCpRecord M C) → cu_cp_ue input ≡ Some ue → Steps ue r (cu_cp_acts way r input)
  unfolding cu_cp_acts
  cp_steps ue (control_input from m) r is = given (control_input from m) r (message_ue from m) ue is (control_steps from m r)
  cp_steps ue (order_input order) r is = given (order_input order) r (order_ue order) ue is (order_steps order r)
  cp_steps ue input r is = absurd cc
