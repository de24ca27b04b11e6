-- What a CU-CP does for a terminal depends on the terminal's projection, and on what is shared.
use Rattle.std.proofs.Common.{◌≡◌, ℕ, Bool, true, false, List, [], ◌∷◌, ◌++◌, map, Option, Some, None, refl, sym, ap, ◌∙◌, subst}
use Rattle.std.specs.Prelude.{if◌then◌else◌}
use Rattle.gnb_types.specs.declared.names.NodeId.{NodeId}
use Rattle.gnb_types.specs.declared.names.NodeId.TheVariants.{CuCp as cp_node, CuUp, Du, Core, Ue}
use Rattle.gnb_types.specs.declared.names.UeId.{UeId}
use Rattle.gnb_types.specs.declared.inputs.Order.{Order}
use Rattle.gnb_types.specs.declared.inputs.Order.TheVariants as orders
use Rattle.gnb_types.specs.declared.reasons.DropReason.TheVariants.{Unexpected}
use Rattle.message_types.specs.declared.f1.F1.TheVariants as f1s
use Rattle.message_types.specs.declared.e1.E1Message.TheVariants as e1s
use Rattle.message_types.specs.declared.xn.XnMessage.TheVariants as xns
use Rattle.unit_defs.specs.Ways.{Message, f1, e1, xn, control, dropped, failed, no, Input, control_input, order_input, Output, Way, Answer, gives, ◌then◌, drops}
use Rattle.unit_defs.specs.Messages.{channel, shares_interface}
use Rattle.unit_defs.specs.Transactions.{Kind, request, reply, transfer, kind_of, Transactions, Asked, waits_at, with_waiting, ask, ask_at_once, advance, replied, replied_late}
use Rattle.unit_defs.specs.CuCpRecords.{Attempt, CuCpTerminal, CuCpRecord, terminal_of, with_terminal, with_transactions, has_unit, Action, asks, cancels, replies, replies_late, sends, fails, ignores, refuses, forgets, Row, row, row_spent, awaiting, begun, on_context, with_attempt, waiting_of, after_begun, after_asked, noted, not_awaited, forgotten, act_one, act_all, carry_out}
use Rattle.unit_defs.specs.CuCpRows.{CuCpScope, attach, handover, cancel, release, offer_context, offer, status, xn_cancelled, xn_released}
use Rattle.unit_defs.proofs.Terminals.{kept_here}
use Rattle.unit_defs.specs.CuCp.{at_of, Answered, answers_none, answers_with, answer, without_release, is_setup_failure, after_failed_setup, put_next, closed_at, answered_by, reply_received, with_unit, set_up, asked, no_context_first, token_received, transferred, control_by, control_received, ordered, cu_cp_acts}
use Rattle.law_terminals_are_isolated.specs.projections.Projections.{Requests, requests_of, ue_in, message_ue, order_ue}
use Rattle.law_terminals_are_isolated.specs.projections.Steps.{seen}
use Rattle.law_terminals_are_isolated.proofs.projections.Answers.{same_then, same_if}
use Rattle.law_terminals_are_isolated.proofs.projections.EqualStates.{asked_view, EqualStates, equal_closed, equal_waiting, ask_equal, ask_at_once_equal, advance_equal, replied_equal, replied_late_equal, on_request_equal, on_reply_equal}
use Rattle.law_terminals_are_isolated.specs.cu_cp_projection.CuCps.{CuCpProjection, CuCpShared, cu_cp_view, cu_cp_ue}
use Rattle.law_terminals_are_isolated.proofs.cu_cp_projection.Forgotten.{waits_forgotten}

module _ {M C P : Type 0} (way : Way M C P) where
  abbrev pub View : Type 0
  View = CuCpProjection M C × CuCpShared

  abbrev pub Same : UeId → Answer M P (CuCpRecord M C) → Answer M P (CuCpRecord M C) → Type 0
  Same ue a b = seen (cu_cp_view ue) a ≡ seen (cu_cp_view ue) b

  abbrev pub Common : UeId → CuCpRecord M C → CuCpRecord M C → Type 0
  Common ue r q = cu_cp_view ue r ≡ cu_cp_view ue q

  pub puts_same : (ue : UeId) (outputs : List (Output M P)) (r q : CuCpRecord M C) → Common ue r q → Same ue (gives outputs r) (gives outputs q)
  puts_same ue outputs r q e = ap (λ (v : View). gives outputs v) e

  terminal_same : (ue : UeId) (r q : CuCpRecord M C) → Common ue r q → terminal_of r ue ≡ terminal_of q ue
  terminal_same ue r q e = ap (λ (v : View). v.0.terminal) e

  pub requests_same : (ue : UeId) (r q : CuCpRecord M C) → Common ue r q → EqualStates way ue.0 r.transactions q.transactions
  requests_same ue r q e = ap (λ (v : View). v.0.requests) e

  -- ---- what is kept

  pub with_same : (ue : UeId) (r q : CuCpRecord M C) (t u : Transactions M C) → Common ue r q → EqualStates way ue.0 t u
      → Common ue (with_transactions r t) (with_transactions q u)
  with_same ue r q t u e a = λ i. (record { terminal = (e i).0.terminal; requests = a i }, (e i).1)

  kept_same : (ue : UeId) (t : CuCpTerminal) (r q : CuCpRecord M C) → Common ue r q → Common ue (with_terminal ue r t) (with_terminal ue q t)
  kept_same ue t r q e = λ i. (
    record {
      terminal = (kept_here r.terminals ue t ∙ sym (kept_here q.terminals ue t)) i;
      requests = (e i).0.requests;
    },
    (e i).1,
  )

  attempt_same : (ue : UeId) (f : Attempt → Attempt) (r q : CuCpRecord M C) → Common ue r q → Common ue (with_attempt ue f r) (with_attempt ue f q)
  attempt_same ue f r q e =
      kept_same ue (on (terminal_of r ue)) r q e ∙ ap (λ (t : CuCpTerminal). cu_cp_view ue (with_terminal ue q (on t))) (terminal_same ue r q e)
    where
      on : CuCpTerminal → CuCpTerminal
      on t = record t { context = on_context f t.context }

  noted_same : (ue : UeId) (node : NodeId) (awaited : Bool) (r q : CuCpRecord M C) → Common ue r q
      → Common ue (noted way ue node awaited r) (noted way ue node awaited q)
  noted_same ue node true r q e = attempt_same ue (λ a. awaiting a node) r q e
  noted_same ue node false r q e = e

  after_same : (ue : UeId) (node : NodeId) (r q : CuCpRecord M C) (a b : Asked M C) → Common ue r q → asked_view ue.0 a ≡ asked_view ue.0 b
      → Common ue (after_asked way ue node r a) (after_asked way ue node q b)
  after_same ue node r q a b e same =
      by a.awaited
      ∙ ap (λ (o : Option ℕ). cu_cp_view ue (after_begun way ue node (with_transactions q b.transactions) o)) (ap (λ (x : Requests M C × Option ℕ). x.1) same)
    where
      there : Common ue (with_transactions r a.transactions) (with_transactions q b.transactions)
      there = with_same ue r q a.transactions b.transactions e (ap (λ (x : Requests M C × Option ℕ). x.0) same)

      by : (o : Option ℕ) → Common ue
          (after_begun way ue node (with_transactions r a.transactions) o) (after_begun way ue node (with_transactions q b.transactions) o)
      by None = there
      by (Some instance) = attempt_same ue (λ x. begun x node instance) (with_transactions r a.transactions) (with_transactions q b.transactions) there

  forgotten_same : (ue : UeId) (t u : Transactions M C) → EqualStates way ue.0 t u → EqualStates way ue.0 (forgotten way ue t) (forgotten way ue u)
  forgotten_same ue t u e = λ i. record (e i) {
    waiting = λ peer. (waits_forgotten way ue (channel ue.0 peer) refl t.waiting
        ∙ ap (λ (s : Requests M C). map (not_awaited way) (s.waiting peer)) e
        ∙ sym (waits_forgotten way ue (channel ue.0 peer) refl u.waiting)) i;
  }

  -- ---- a row is carried out

  say_same : (ue : UeId) (s : Action C) (r q : CuCpRecord M C) → Common ue r q → Same ue (act_one way ue r s) (act_one way ue q s)
  unfolding act_one
  say_same ue (asks to m deadline awaited) r q e =
      same_then (asked_view ue.0) (cu_cp_view ue)
      (ask way r.transactions (channel ue.0 to) (waiting_of way m deadline awaited)) (ask way q.transactions (channel ue.0 to) (waiting_of way m deadline awaited)) _ _
      (ask_equal way r.transactions q.transactions (channel ue.0 to) (waiting_of way m deadline awaited) (requests_same ue r q e))
      (λ a b same. puts_same ue [] _ _ (after_same ue to (noted way ue to awaited r) (noted way ue to awaited q) a b (noted_same ue to awaited r q e) same))
  say_same ue (cancels to m) r q e =
      same_then (asked_view ue.0) (cu_cp_view ue)
      (ask_at_once way r.transactions (channel ue.0 to) (waiting_of way m None false)) (ask_at_once way q.transactions (channel ue.0 to) (waiting_of way m None false)) _ _
      (ask_at_once_equal way r.transactions q.transactions (channel ue.0 to) (waiting_of way m None false) (requests_same ue r q e))
      (λ a b same. puts_same ue [] _ _ (after_same ue to r q a b e same))
  say_same ue (replies to m) r q e =
      same_then (requests_of ue.0) (cu_cp_view ue) (replied way r.transactions (channel ue.0 to) m) (replied way q.transactions (channel ue.0 to) m) _ _
      (replied_equal way r.transactions q.transactions (channel ue.0 to) m (requests_same ue r q e))
      (λ t u a. puts_same ue [] (with_transactions r t) (with_transactions q u) (with_same ue r q t u e a))
  say_same ue (replies_late to instance m) r q e =
      same_then (requests_of ue.0) (cu_cp_view ue)
      (replied_late way r.transactions (channel ue.0 to) instance m) (replied_late way q.transactions (channel ue.0 to) instance m) _ _
      (replied_late_equal way r.transactions q.transactions (channel ue.0 to) instance m (requests_same ue r q e))
      (λ t u a. puts_same ue [] (with_transactions r t) (with_transactions q u) (with_same ue r q t u e a))
  say_same ue (sends to m) r q e = puts_same ue (control to ue.0 (way.encode m) ∷ []) r q e
  say_same ue (fails cause) r q e = puts_same ue (failed ue cause ∷ []) r q e
  say_same ue (ignores reason) r q e = puts_same ue (dropped reason ∷ []) r q e
  say_same ue (refuses reason) r q e = puts_same ue (no reason ∷ []) r q e
  say_same ue forgets r q e =
      puts_same ue [] (with_transactions r (forgotten way ue r.transactions)) (with_transactions q (forgotten way ue q.transactions))
      (with_same ue r q (forgotten way ue r.transactions) (forgotten way ue q.transactions) e
      (forgotten_same ue r.transactions q.transactions (requests_same ue r q e)))

  says_same : (ue : UeId) (ss : List (Action C)) (r q : CuCpRecord M C) → Common ue r q → Same ue (act_all way ue ss r) (act_all way ue ss q)
  unfolding act_all
  says_same ue [] r q e = puts_same ue [] r q e
  says_same ue (s ∷ ss) r q e =
      same_then (cu_cp_view ue) (cu_cp_view ue) (act_one way ue r s) (act_one way ue q s) (act_all way ue ss) (act_all way ue ss) (say_same ue s r q e)
      (λ a b f. says_same ue ss a b f)

  pub carry_same : (ue : UeId) (x : Row C) (r q : CuCpRecord M C) → Common ue r q → Same ue (carry_out way ue r x) (carry_out way ue q x)
  unfolding carry_out
  carry_same ue (row says after) r q e = says_same ue says (with_terminal ue r after) (with_terminal ue q after) (kept_same ue after r q e)
  carry_same ue (row_spent counter) r q e = refl

  -- a row is told of the terminal and of what is shared
  pub row_same : (ue : UeId) (taken : CuCpScope → CuCpTerminal → Row C) (r q : CuCpRecord M C) → Common ue r q
      → Same ue (carry_out way ue r (taken (at_of r ue) (terminal_of r ue))) (carry_out way ue q (taken (at_of q ue) (terminal_of q ue)))
  row_same ue taken r q e =
      carry_same ue (taken (at_of r ue) (terminal_of r ue)) r q e
      ∙ ap (λ (v : View). seen (cu_cp_view ue) (carry_out way ue q (taken (record { gnb = v.1.gnb; ue = ue; units = v.1.units }) v.0.terminal))) e

  -- ---- an answer

  next_same : (ue : UeId) (from : NodeId) (r q : CuCpRecord M C) → Common ue r q
      → Same ue (put_next way ue (channel ue.0 from) r) (put_next way ue (channel ue.0 from) q)
  next_same ue from r q e =
      same_then (asked_view ue.0) (cu_cp_view ue) (advance way r.transactions (channel ue.0 from)) (advance way q.transactions (channel ue.0 from)) _ _
      (advance_equal way r.transactions q.transactions (channel ue.0 from) (requests_same ue r q e))
      (λ a b same. puts_same ue [] _ _ (after_same ue from r q a b e same))

  closed_same : (ue : UeId) (from : NodeId) (r q : CuCpRecord M C) → Common ue r q
      → Common ue (closed_at way (channel ue.0 from) r) (closed_at way (channel ue.0 from) q)
  closed_same ue from r q e =
      with_same ue r q _ _ e (equal_closed way r.transactions q.transactions (channel ue.0 from) (requests_same ue r q e))

  failed_same : (ue : UeId) (from : NodeId) (m : Message C) (t u : Transactions M C) → EqualStates way ue.0 t u
      → EqualStates way ue.0 (after_failed_setup way m (channel ue.0 from) t) (after_failed_setup way m (channel ue.0 from) u)
  unfolding waits_at
  failed_same ue from m t u e = by (is_setup_failure way m)
    where
      by : (b : Bool) → EqualStates way ue.0
          (if b then with_waiting t (channel ue.0 from) (without_release way (waits_at t (channel ue.0 from))) else t)
          (if b then with_waiting u (channel ue.0 from) (without_release way (waits_at u (channel ue.0 from))) else u)
      by true =
          equal_waiting way t u (channel ue.0 from) (without_release way (waits_at t (channel ue.0 from))) e
          ∙ ap (λ (s : Requests M C). requests_of ue.0 (with_waiting u (channel ue.0 from) (without_release way (s.waiting from)))) e
      by false = e

  answered_same : (ue : UeId) (from : NodeId) (m : Message C) (x : Answered way) (r q : CuCpRecord M C) → Common ue r q
      → Same ue (answered_by way ue (channel ue.0 from) m r x) (answered_by way ue (channel ue.0 from) m q x)
  answered_same ue from m answers_none r q e =
      let a : CuCpRecord M C = closed_at way (channel ue.0 from) r in
      let b : CuCpRecord M C = closed_at way (channel ue.0 from) q in
      let same : Common ue a b = closed_same ue from r q e in
      next_same ue from _ _ (with_same ue a b _ _ same (failed_same ue from m a.transactions b.transactions (requests_same ue a b same)))
  answered_same ue from m (answers_with None) r q e = puts_same ue (dropped Unexpected ∷ []) r q e
  answered_same ue from m (answers_with (Some taken)) r q e =
      same_then (cu_cp_view ue) (cu_cp_view ue) (carry_out way ue (closed_at way (channel ue.0 from) r) taken) (carry_out way ue (closed_at way (channel ue.0 from) q) taken) _ _
      (carry_same ue taken (closed_at way (channel ue.0 from) r) (closed_at way (channel ue.0 from) q) (closed_same ue from r q e))
      (λ a b f. next_same ue from a b f)

  reply_same : (ue : UeId) (from : NodeId) (instance : ℕ) (m : Message C) (r q : CuCpRecord M C) → Common ue r q
      → Same ue (reply_received way ue (channel ue.0 from) instance m r) (reply_received way ue (channel ue.0 from) instance m q)
  unfolding reply_received
  reply_same ue from instance m r q e =
      answered_same ue from m (answer way (at_of r ue) from instance m (terminal_of r ue)) r q e
      ∙ ap (λ (v : View). seen (cu_cp_view ue) (answered_by way ue (channel ue.0 from) m q
      (answer way (record { gnb = v.1.gnb; ue = ue; units = v.1.units }) from instance m v.0.terminal))) e

  -- ---- requests

  abbrev at : ℕ → UeId
  at n = record { 0 = n }

  unit_same : (ue : UeId) (node : NodeId) (r q : CuCpRecord M C) → Common ue r q → Common ue (with_unit way node r) (with_unit way node q)
  unit_same ue node r q e = λ i. (
    (e i).0,
    record (e i).1 { units = if has_unit (e i).1.units node then (e i).1.units else (e i).1.units ++ node ∷ [] },
  )

  set_up_same : (from : NodeId) (m : Message C) (r q : CuCpRecord M C) → Common (at 0) r q → Same (at 0) (set_up way from m r) (set_up way from m q)
  set_up_same from m r q e =
      same_then (requests_of 0) (cu_cp_view (at 0)) (replied way r.transactions (channel 0 from) m) (replied way q.transactions (channel 0 from) m) _ _
      (replied_equal way r.transactions q.transactions (channel 0 from) m (requests_same (at 0) r q e))
      (λ t u a. puts_same (at 0) [] _ _ (with_same (at 0) (with_unit way from r) (with_unit way from q) t u (unit_same (at 0) from r q e) a))

  request_same : (from : NodeId) (m : Message C) (n instance : ℕ) → kind_of m ≡ request n instance → (r q : CuCpRecord M C) → Common (at n) r q
      → Same (at n) (asked way from m r) (asked way from m q)
  unfolding kind_of
  request_same from (f1 (f1s.F1SetupRequest i name)) n instance k r q e =
      subst (λ (x : ℕ). Common (at x) r q → Same (at x) (asked way from (f1 (f1s.F1SetupRequest i name)) r) (asked way from (f1 (f1s.F1SetupRequest i name)) q))
      (ap (λ (x : Kind). (ue_in x).0) k) (set_up_same from (f1 (f1s.F1SetupResponse i)) r q) e
  request_same from (e1 (e1s.E1SetupRequest i name)) n instance k r q e =
      subst (λ (x : ℕ). Common (at x) r q → Same (at x) (asked way from (e1 (e1s.E1SetupRequest i name)) r) (asked way from (e1 (e1s.E1SetupRequest i name)) q))
      (ap (λ (x : Kind). (ue_in x).0) k) (set_up_same from (e1 (e1s.E1SetupResponse i)) r q) e
  request_same from (xn (xns.HandoverRequest ue i epoch bearers sn quota peer du origin)) n instance k r q e =
      subst (λ (x : ℕ). Common (at x) r q → Same (at x) (asked way from (xn (xns.HandoverRequest ue i epoch bearers sn quota peer du origin)) r)
      (asked way from (xn (xns.HandoverRequest ue i epoch bearers sn quota peer du origin)) q))
      (ap (λ (x : Kind). (ue_in x).0) k)
      (row_same ue (λ a t. offer way a from i (offer_context way peer.up du i bearers sn quota epoch) t) r q) e
  request_same from (xn (xns.SnStatusTransfer ue i statuses)) n instance k r q e =
      subst (λ (x : ℕ). Common (at x) r q → Same (at x) (asked way from (xn (xns.SnStatusTransfer ue i statuses)) r)
      (asked way from (xn (xns.SnStatusTransfer ue i statuses)) q))
      (ap (λ (x : Kind). (ue_in x).0) k) (row_same ue (λ a t. status way a from i statuses t) r q) e
  request_same from (xn (xns.HandoverCancel ue i)) n instance k r q e =
      subst (λ (x : ℕ). Common (at x) r q → Same (at x) (asked way from (xn (xns.HandoverCancel ue i)) r) (asked way from (xn (xns.HandoverCancel ue i)) q))
      (ap (λ (x : Kind). (ue_in x).0) k) (row_same ue (λ a t. xn_cancelled way a from i t) r q) e
  request_same from (xn (xns.UeContextRelease ue i)) n instance k r q e =
      subst (λ (x : ℕ). Common (at x) r q → Same (at x) (asked way from (xn (xns.UeContextRelease ue i)) r) (asked way from (xn (xns.UeContextRelease ue i)) q))
      (ap (λ (x : Kind). (ue_in x).0) k) (row_same ue (λ a t. xn_released way a from i t) r q) e
  request_same from m n instance k r q e = puts_same (at n) (dropped Unexpected ∷ []) r q e

  token_same : (ue : UeId) (from : NodeId) (container : C) (r q : CuCpRecord M C) → Common ue r q
      → Same ue (token_received way ue from container r) (token_received way ue from container q)
  unfolding token_received
  token_same ue from container r q e = row_same ue (λ a t. no_context_first way a from t t.context (way.unwrap container)) r q e

  transferred_same : (from : NodeId) (m : Message C) (n : ℕ) → kind_of m ≡ transfer n → (r q : CuCpRecord M C) → Common (at n) r q
      → Same (at n) (transferred way from m r) (transferred way from m q)
  unfolding kind_of
  transferred_same from (f1 (f1s.UlRrcMessageTransfer ue container)) n k r q e =
      subst (λ (x : ℕ). Common (at x) r q → Same (at x) (token_received way ue from container r) (token_received way ue from container q))
      (ap (λ (x : Kind). (ue_in x).0) k) (token_same ue from container r q) e
  transferred_same from m n k r q e = puts_same (at n) (dropped Unexpected ∷ []) r q e

  -- ---- a control message, and the table

  by_same : (from : NodeId) (m : Message C) (k : Kind) → kind_of m ≡ k → (r q : CuCpRecord M C) → Common (ue_in k) r q
      → Same (ue_in k) (control_by way from m r k) (control_by way from m q k)
  by_same from m (request n instance) k r q e =
      on_request_equal way (cu_cp_view (at n)) r q r.transactions q.transactions (channel n from) instance e (requests_same (at n) r q e) _ _
      (λ t u a. request_same from m n instance k (with_transactions r t) (with_transactions q u) (with_same (at n) r q t u e a))
  by_same from m (reply n instance) k r q e =
      on_reply_equal way (cu_cp_view (at n)) r q r.transactions q.transactions (channel n from) instance e (requests_same (at n) r q e) _ _
      (reply_same (at n) from instance m r q e)
  by_same from m (transfer n) k r q e = transferred_same from m n k r q e

  shared_same : (from : NodeId) (m : Message C) (r q : CuCpRecord M C) → Common (ue_in (kind_of m)) r q → Same (ue_in (kind_of m))
      (if shares_interface (cp_node r.gnb) from then control_by way from m r (kind_of m) else drops Unexpected r)
      (if shares_interface (cp_node q.gnb) from then control_by way from m q (kind_of m) else drops Unexpected q)
  shared_same from m r q e =
      same_if (cu_cp_view (ue_in (kind_of m))) (shares_interface (cp_node r.gnb) from) (shares_interface (cp_node q.gnb) from) _ _ _ _
      (ap (λ (v : View). shares_interface (cp_node v.1.gnb) from) e) (by_same from m (kind_of m) refl r q e)
      (puts_same (ue_in (kind_of m)) (dropped Unexpected ∷ []) r q e)

  control_same : (from : NodeId) (m : Message C) (r q : CuCpRecord M C) → Common (message_ue from m) r q
      → Same (message_ue from m) (control_received way from m r) (control_received way from m q)
  unfolding control_received
  control_same (cp_node gnb) m r q e = shared_same (cp_node gnb) m r q e
  control_same (CuUp gnb number) m r q e = shared_same (CuUp gnb number) m r q e
  control_same (Du gnb number) m r q e = shared_same (Du gnb number) m r q e
  control_same Core m r q e = shared_same Core m r q e
  control_same (Ue ue) m r q e = puts_same (at ue) (dropped Unexpected ∷ []) r q e

  order_same : (order : Order) (r q : CuCpRecord M C) → Common (order_ue order) r q → Same (order_ue order) (ordered way order r) (ordered way order q)
  order_same (orders.Attach plan) r q e = row_same plan.ue (λ a t. attach way a plan t) r q e
  order_same (orders.Handover plan) r q e = row_same plan.ue (λ a t. handover way a plan t) r q e
  order_same (orders.Cancel ue) r q e = row_same ue (λ a t. cancel way a t) r q e
  order_same (orders.Release ue) r q e = row_same ue (λ a t. release way a t) r q e
  order_same order r q e = puts_same _ (dropped Unexpected ∷ []) r q e

  abbrev Depends : Input C P → CuCpRecord M C → CuCpRecord M C → UeId → Type 0
  Depends input r q ue = Common ue r q → Same ue (cu_cp_acts way r input) (cu_cp_acts way q input)

  some_ue : (a b : UeId) → Some a ≡ Some b → a ≡ b
  some_ue a b e = cc

  given : (input : Input C P) (r q : CuCpRecord M C) (own ue : UeId) → Some own ≡ Some ue → Depends input r q own → Depends input r q ue
  given input r q own ue is depends = subst (Depends input r q) (some_ue own ue is) depends

  pub cp_same : (ue : UeId) (input : Input C P) → cu_cp_ue input ≡ Some ue → (r q : CuCpRecord M C) → Common ue r q
      → Same ue (cu_cp_acts way r input) (cu_cp_acts way q input)
  unfolding cu_cp_acts
  cp_same ue (control_input from m) is r q e = given (control_input from m) r q (message_ue from m) ue is (λ f. control_same from m r q f) e
  cp_same ue (order_input order) is r q e = given (order_input order) r q (order_ue order) ue is (λ f. order_same order r q f) e
  cp_same ue input is r q e = absurd cc
