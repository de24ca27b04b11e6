-- A CU-CP keeps to its interfaces: its rows are carried out, and it answers whatever comes.
use Rattle.std.proofs.Common.{◌≡◌, ℕ, Bool, true, false, List, [], ◌∷◌, map, Option, Some, None, refl, sym, subst}
use Rattle.std.specs.Prelude.{if◌then◌else◌}
use Rattle.std.specs.List.{AllByRecursion}
use Rattle.gnb_types.specs.declared.names.Gnb.{Gnb}
use Rattle.gnb_types.specs.declared.names.Gnb.TheVariants.{A, B}
use Rattle.gnb_types.specs.declared.names.NodeId.{NodeId}
use Rattle.gnb_types.specs.declared.names.NodeId.TheVariants.{CuCp, CuUp, Du, Core, Ue}
use Rattle.gnb_types.specs.declared.names.UeId.{UeId}
use Rattle.gnb_types.specs.declared.keys.Channel.{Channel}
use Rattle.gnb_types.specs.declared.inputs.Order.{Order}
use Rattle.gnb_types.specs.declared.inputs.Order.TheVariants as orders
use Rattle.gnb_types.specs.declared.reasons.DropReason.TheVariants.{Unexpected}
use Rattle.message_types.specs.declared.f1.F1.TheVariants as f1s
use Rattle.message_types.specs.declared.e1.E1Message.TheVariants as e1s
use Rattle.message_types.specs.declared.xn.XnMessage.TheVariants as xns
use Rattle.message_types.specs.declared.rrc.Token.{Token}
use Rattle.transaction_defs.specs.Callers.{due, Due, repeats, expires, after_tick}
use Rattle.unit_defs.specs.declared.StateName.{StateName}
use Rattle.unit_defs.specs.declared.StateName.TheVariants as states
use Rattle.unit_defs.specs.Ways.{f1, e1, xn, Pdu, Input, control_input, packet_input, radio_input, confirm_input, offer_input, tick_input, order_input, ◌then◌, nothing, drops}
use Rattle.unit_defs.specs.Messages.{channel, is_same_gnb, shares_interface}
use Rattle.unit_defs.specs.Transactions.{Kind, request, reply, transfer, kind_of, Waiting, Asked, waits_at, with_waiting, ask, ask_at_once, advance, replied, replied_late}
use Rattle.unit_defs.specs.CuCpRecords.{Attempt, CuCpContext, CuCpTerminal, CuCpRecord, terminal_of, with_terminal, with_transactions, waiting_of, after_begun, after_asked, noted, not_awaited, unawaited, forgotten, Action, asks, cancels, replies, replies_late, sends, fails, ignores, refuses, forgets, act_one, act_all, Row, row, row_spent, carry_out}
use Rattle.unit_defs.specs.CuCpRows.{offer_context}
use Rattle.unit_defs.specs.CuCp.{at_of, Answered as ToAttempt, answers_none, answers_with, answer, is_cu_up_release, without_release, is_setup_failure, after_failed_setup, put_next, closed_at, answered_by, reply_received, with_unit, set_up, asked, token_received, transferred, control_by, control_received, expired_on, due_one, due_each, command_by, command_on, command_each, ues_of, tick, ordered, cu_cp_acts}
use Rattle.run_defs.specs.Runs.{plain_way}
use Rattle.proof_unit_steps.proofs.tunnel_names.Kept.{all_mapped}
use Rattle.law_units_act_locally.specs.cu_cp_interfaces.Interfaces.{xn_c, Joins, IsOf}
use Rattle.law_units_act_locally.specs.cu_cp_interfaces.Ledgers.{Said, Ledger, Answered, Of, WaitsOf, Keeps, Asks, Gives, GivenOf}
use Rattle.law_units_act_locally.proofs.cu_cp_interfaces.Kept.{either, after, waits_are, waiting_keeps, closed_keeps, ask_gives, advance_gives, at_once_gives, replied_gives, late_gives, request_taken, reply_taken, DueOf, due_are, ticked_keeps}
use Rattle.law_units_act_locally.proofs.cu_cp_interfaces.Rows.{SayOf, SaysOf, RowOf, Other, AnsweredOf, attach_of, handover_of, expires_of, command_of, cancel_is_of, release_of, xn_released_is_of, offer_of, status_of, xn_cancelled_is_of, container_of, answer_is_of}

abbrev Record : Type 0
Record = CuCpRecord Said Token

-- the other CU-CP has this one for its other one
pub apart_back : (g h : Gnb) → is_same_gnb g h ≡ false → is_same_gnb h g ≡ false
apart_back A A e = absurd cc
apart_back A B e = refl
apart_back B A e = refl
apart_back B B e = absurd cc

module _ (g : Gnb) where
  -- the record is this gNB's, and keeps to the interfaces
  abbrev pub Invariant : Record → Type 0
  Invariant r = (r.gnb ≡ g) × Keeps (CuCp g) r.transactions

  abbrev Does : Answered Record → Type 0
  Does a = Gives (CuCp g) Invariant a

  -- a message comes from a node of its interface
  back_xn : (from : NodeId) → Joins xn_c from (CuCp g) → Joins xn_c (CuCp g) from
  back_xn (CuCp h) p = apart_back h g p
  back_xn (CuUp h n) p = p
  back_xn (Du h n) p = p
  back_xn Core p = p
  back_xn (Ue ue) p = p

  -- ---- what a row says is put

  begun_fine : (ue : UeId) (node : NodeId) (r : Record) (o : Option ℕ) → Invariant r → Invariant (after_begun plain_way ue node r o)
  begun_fine ue node r None p = p
  begun_fine ue node r (Some instance) p = p

  asked_fine : (ue : UeId) (node : NodeId) (r : Record) (a : Asked Said Token) → Invariant r → Asks (CuCp g) a
      → Invariant (after_asked plain_way ue node r a)
  asked_fine ue node r a p k = begun_fine ue node (with_transactions r a.transactions) a.awaited (p.0, k)

  noted_fine : (ue : UeId) (node : NodeId) (b : Bool) (r : Record) → Invariant r → Invariant (noted plain_way ue node b r)
  noted_fine ue node true r p = p
  noted_fine ue node false r p = p

  abbrev Each : Channel × List (Waiting Token) → Type 0
  Each e = WaitsOf (CuCp g) e.0 e.1

  forgotten_keeps : (ue : UeId) (t : Ledger) → Keeps (CuCp g) t → Keeps (CuCp g) (forgotten plain_way ue t)
  forgotten_keeps ue t p = record { opened = p.opened; waiting = each t.waiting p.waiting; replies = p.replies }
    where
      one : (e : Channel × List (Waiting Token)) → Each e → (b : Bool) → Each (if b then (e.0, map (not_awaited plain_way) e.1) else e)
      one e q true =
          all_mapped (λ (w : Waiting Token). Of (CuCp g) e.0 w.message) (λ (w : Waiting Token). Of (CuCp g) e.0 w.message)
          (not_awaited plain_way)
          (λ w x. x) e.1 q
      one e q false = q

      each : (es : List (Channel × List (Waiting Token))) → AllByRecursion Each es → AllByRecursion Each (map (unawaited plain_way ue) es)
      each [] q = tt
      each (e ∷ es) q = (one e q.0 _, each es q.1)

  say_does : (ue : UeId) (r : Record) (s : Action Token) → SayOf g s → Invariant r → Does (act_one plain_way ue r s)
  unfolding act_one
  say_does ue r (asks to m deadline awaited) says p =
      after (CuCp g) (Asks (CuCp g)) Invariant (ask plain_way r.transactions (channel ue.0 to) (waiting_of plain_way m deadline awaited))
      (λ a. nothing (after_asked plain_way ue to (noted plain_way ue to awaited r) a))
      (ask_gives (CuCp g) r.transactions (channel ue.0 to) (waiting_of plain_way m deadline awaited) p.1 says)
      (λ a k. (asked_fine ue to (noted plain_way ue to awaited r) a (noted_fine ue to awaited r p) k, tt))
  say_does ue r (cancels to m) says p =
      after (CuCp g) (Asks (CuCp g)) Invariant (ask_at_once plain_way r.transactions (channel ue.0 to) (waiting_of plain_way m None false))
      (λ a. nothing (after_asked plain_way ue to r a))
      (at_once_gives (CuCp g) r.transactions (channel ue.0 to) (waiting_of plain_way m None false) p.1 says)
      (λ a k. (asked_fine ue to r a p k, tt))
  say_does ue r (replies to m) says p =
      after (CuCp g) (Keeps (CuCp g)) Invariant (replied plain_way r.transactions (channel ue.0 to) m) (λ t. nothing (with_transactions r t))
      (replied_gives (CuCp g) r.transactions (channel ue.0 to) m p.1 says) (λ t k. ((p.0, k), tt))
  say_does ue r (replies_late to instance m) says p =
      after (CuCp g) (Keeps (CuCp g)) Invariant (replied_late plain_way r.transactions (channel ue.0 to) instance m)
      (λ t. nothing (with_transactions r t))
      (late_gives (CuCp g) r.transactions (channel ue.0 to) instance m p.1 says) (λ t k. ((p.0, k), tt))
  say_does ue r (sends to m) says p = (p, (says, tt))
  say_does ue r (fails cause) says p = (p, tt)
  say_does ue r (ignores reason) says p = (p, tt)
  say_does ue r (refuses reason) says p = (p, tt)
  say_does ue r forgets says p = ((p.0, forgotten_keeps ue r.transactions p.1), tt)

  say_all_does : (ue : UeId) (ss : List (Action Token)) (r : Record) → SaysOf g ss → Invariant r → Does (act_all plain_way ue ss r)
  unfolding act_all
  say_all_does ue [] r says p = (p, tt)
  say_all_does ue (s ∷ ss) r says p =
      after (CuCp g) Invariant Invariant (act_one plain_way ue r s) (act_all plain_way ue ss) (say_does ue r s says.0 p)
      (λ q h. say_all_does ue ss q says.1 h)

  carried_does : (ue : UeId) (r : Record) (what : Row Token) → RowOf g what → Invariant r → Does (carry_out plain_way ue r what)
  unfolding carry_out
  carried_does ue r (row says t) fits p = say_all_does ue says (with_terminal ue r t) fits p
  carried_does ue r (row_spent counter) fits p = tt

  -- a row is made for the gNB of the record
  row_does : (ue : UeId) (r s : Record) (what : Row Token) → r.gnb ≡ g → RowOf r.gnb what → Invariant s → Does (carry_out plain_way ue s what)
  row_does ue r s what own fits p = carried_does ue s what (subst (λ (h : Gnb). RowOf h what) own fits) p

  -- ---- replies

  next_does : (ue : UeId) (ch : Channel) (r : Record) → Invariant r → Does (put_next plain_way ue ch r)
  next_does ue ch r p =
      after (CuCp g) (Asks (CuCp g)) Invariant (advance plain_way r.transactions ch) (λ a. nothing (after_asked plain_way ue ch.peer r a))
      (advance_gives (CuCp g) r.transactions ch p.1) (λ a k. (asked_fine ue ch.peer r a p k, tt))

  closed_fine : (ch : Channel) (r : Record) → Invariant r → Invariant (closed_at plain_way ch r)
  closed_fine ch r p = (p.0, closed_keeps (CuCp g) r.transactions ch p.1)

  rest_waits : (ch : Channel) (ws : List (Waiting Token)) → WaitsOf (CuCp g) ch ws → WaitsOf (CuCp g) ch (without_release plain_way ws)
  rest_waits ch [] all = tt
  rest_waits ch (w ∷ ws) all = by (is_cu_up_release plain_way w.message)
    where
      by : (b : Bool) → WaitsOf (CuCp g) ch (if b then ws else w ∷ ws)
      by true = all.1
      by false = all

  failed_keeps : (m : Said) (ch : Channel) (t : Ledger) → Keeps (CuCp g) t → Keeps (CuCp g) (after_failed_setup plain_way m ch t)
  failed_keeps m ch t p = by (is_setup_failure plain_way m)
    where
      by : (b : Bool) → Keeps (CuCp g) (if b then with_waiting t ch (without_release plain_way (waits_at t ch)) else t)
      by true =
          waiting_keeps (CuCp g) t ch (without_release plain_way (waits_at t ch)) p
          (rest_waits ch (waits_at t ch) (waits_are (CuCp g) t ch p))
      by false = p

  answered_does : (ue : UeId) (ch : Channel) (m : Said) (r : Record) (a : ToAttempt plain_way) → AnsweredOf (at_of r ue) a → Invariant r
      → Does (answered_by plain_way ue ch m r a)
  answered_does ue ch m r answers_none fits p =
      let c : Record = closed_at plain_way ch r in
      let q : Invariant c = closed_fine ch r p in
      next_does ue ch (with_transactions c (after_failed_setup plain_way m ch c.transactions)) (q.0, failed_keeps m ch c.transactions q.1)
  answered_does ue ch m r (answers_with None) fits p = (p, tt)
  answered_does ue ch m r (answers_with (Some what)) fits p =
      after (CuCp g) Invariant Invariant (carry_out plain_way ue (closed_at plain_way ch r) what) (put_next plain_way ue ch)
      (row_does ue r (closed_at plain_way ch r) what p.0 fits (closed_fine ch r p)) (λ q k. next_does ue ch q k)

  reply_does : (ue : UeId) (ch : Channel) (instance : ℕ) (m : Said) (r : Record) → Invariant r → Does (reply_received plain_way ue ch instance m r)
  unfolding reply_received
  reply_does ue ch instance m r p =
      answered_does ue ch m r (answer plain_way (at_of r ue) ch.peer instance m (terminal_of r ue))
      (answer_is_of (at_of r ue) ch.peer instance m (terminal_of r ue)) p

  -- ---- requests and transfers

  set_up_does : (from : NodeId) (m : Said) (r : Record) → IsOf (CuCp g) from m → Invariant r → Does (set_up plain_way from m r)
  set_up_does from m r says p =
      after (CuCp g) (Keeps (CuCp g)) Invariant (replied plain_way r.transactions (channel 0 from) m)
      (λ t. nothing (with_transactions (with_unit plain_way from r) t)) (replied_gives (CuCp g) r.transactions (channel 0 from) m p.1 says)
      (λ t k. ((p.0, k), tt))

  -- an F1 or E1 message comes from a unit of this gNB, which is answered over the same
  back_f1 : (from : NodeId) (i j : ℕ) (name : List ℕ) → IsOf {C = Token} from (CuCp g) (f1 (f1s.F1SetupRequest i name))
      → IsOf {C = Token} (CuCp g) from (f1 (f1s.F1SetupResponse j))
  back_f1 (Du h n) i j name p = p
  back_f1 (CuCp h) i j name p = p
  back_f1 (CuUp h n) i j name p = p
  back_f1 Core i j name p = p
  back_f1 (Ue ue) i j name p = p

  back_e1 : (from : NodeId) (i j : ℕ) (name : List ℕ) → IsOf {C = Token} from (CuCp g) (e1 (e1s.E1SetupRequest i name))
      → IsOf {C = Token} (CuCp g) from (e1 (e1s.E1SetupResponse j))
  back_e1 (CuUp h n) i j name p = p
  back_e1 (CuCp h) i j name p = p
  back_e1 (Du h n) i j name p = p
  back_e1 Core i j name p = p
  back_e1 (Ue ue) i j name p = p

  other_of : (r : Record) (from : NodeId) (ue : UeId) → r.gnb ≡ g → Joins xn_c from (CuCp g) → Other (at_of r ue) from
  other_of r from ue own p = subst (λ (h : Gnb). Joins xn_c (CuCp h) from) (sym own) (back_xn from p)

  asked_does : (from : NodeId) (m : Said) (r : Record) → IsOf from (CuCp g) m → Invariant r → Does (asked plain_way from m r)
  asked_does from (f1 (f1s.F1SetupRequest instance name)) r is p =
      set_up_does from (f1 (f1s.F1SetupResponse instance)) r (back_f1 from instance instance name is) p
  asked_does from (e1 (e1s.E1SetupRequest instance name)) r is p =
      set_up_does from (e1 (e1s.E1SetupResponse instance)) r (back_e1 from instance instance name is) p
  asked_does from (xn (xns.HandoverRequest ue instance epoch bearers sn quota peer du origin)) r is p =
      row_does ue r r _ p.0
      (offer_of (at_of r ue) from (other_of r from ue p.0 is) instance
      (offer_context plain_way peer.up du instance bearers sn quota epoch) (terminal_of r ue)) p
  asked_does from (xn (xns.SnStatusTransfer ue instance statuses)) r is p =
      row_does ue r r _ p.0 (status_of (at_of r ue) from (other_of r from ue p.0 is) instance statuses (terminal_of r ue)) p
  asked_does from (xn (xns.HandoverCancel ue instance)) r is p =
      row_does ue r r _ p.0 (xn_cancelled_is_of (at_of r ue) from (other_of r from ue p.0 is) instance (terminal_of r ue)) p
  asked_does from (xn (xns.UeContextRelease ue instance)) r is p =
      row_does ue r r _ p.0 (xn_released_is_of (at_of r ue) from (other_of r from ue p.0 is) instance (terminal_of r ue)) p
  asked_does from m r is p = (p, tt)

  transferred_does : (from : NodeId) (m : Said) (r : Record) → Invariant r → Does (transferred plain_way from m r)
  unfolding token_received
  transferred_does from (f1 (f1s.UlRrcMessageTransfer ue container)) r p =
      row_does ue r r _ p.0 (container_of (at_of r ue) from (terminal_of r ue) (terminal_of r ue).context (plain_way.unwrap container)) p
  transferred_does from m r p = (p, tt)

  by_kind_does : (from : NodeId) (m : Said) (r : Record) (k : Kind) → IsOf from (CuCp g) m → Invariant r → Does (control_by plain_way from m r k)
  by_kind_does from m r (request ue i) is p =
      request_taken (CuCp g) Invariant r r.transactions (channel ue from) i (λ t. asked plain_way from m (with_transactions r t)) p p.1
      (λ t k. asked_does from m (with_transactions r t) is (p.0, k))
  by_kind_does from m r (reply ue i) is p =
      reply_taken (CuCp g) Invariant r r.transactions (channel ue from) i (reply_received plain_way (record { 0 = ue }) (channel ue from) i m r) p
      (reply_does (record { 0 = ue }) (channel ue from) i m r p)
  by_kind_does from m r (transfer ue) is p = transferred_does from m r p

  control_does : (from : NodeId) (m : Said) (r : Record) → IsOf from (CuCp g) m → Invariant r → Does (control_received plain_way from m r)
  unfolding control_received
  control_does from m r is p =
      either (CuCp g) Invariant (shares_interface (CuCp r.gnb) from) (control_by plain_way from m r (kind_of m)) (drops Unexpected r)
      (by_kind_does from m r (kind_of m) is p) (p, tt)

  -- ---- a tick

  expired_of : (r : Record) (ue : UeId) (t : CuCpTerminal) (o : Option CuCpContext) → RowOf r.gnb (expired_on plain_way (at_of r ue) t o)
  expired_of r ue t None = tt
  expired_of r ue t (Some c) = expires_of (at_of r ue) t c

  due_one_does : (r : Record) (d : Due Said) → DueOf (CuCp g) d → Invariant r → Does (due_one plain_way r d)
  due_one_does r (repeats ch m) says p = (p, (says, tt))
  due_one_does r (expires ch) says p =
      let ue : UeId = record { 0 = ch.ue } in row_does ue r r _ p.0 (expired_of r ue (terminal_of r ue) (terminal_of r ue).context) p

  due_each_does : (ds : List (Due Said)) (r : Record) → AllByRecursion (DueOf (CuCp g)) ds → Invariant r → Does (due_each plain_way ds r)
  due_each_does [] r all p = (p, tt)
  due_each_does (d ∷ ds) r all p =
      after (CuCp g) Invariant Invariant (due_one plain_way r d) (due_each plain_way ds) (due_one_does r d all.0 p)
      (λ s q. due_each_does ds s all.1 q)

  commanded_of : (r : Record) (ue : UeId) (t : CuCpTerminal) (o : Option CuCpContext) → RowOf r.gnb (command_on plain_way (at_of r ue) t o)
  commanded_of r ue t None = tt
  commanded_of r ue t (Some c) = by c.state c.attempt
    where
      by : (state : StateName) (o : Option Attempt) → RowOf r.gnb (command_by plain_way (at_of r ue) t c state o)
      by states.Frozen (Some a) = command_of (at_of r ue) t c a
      by states.Commanded (Some a) = command_of (at_of r ue) t c a
      by state o = tt

  command_each_does : (ues : List UeId) (r : Record) → Invariant r → Does (command_each plain_way ues r)
  command_each_does [] r p = (p, tt)
  command_each_does (ue ∷ ues) r p =
      after (CuCp g) Invariant Invariant (carry_out plain_way ue r (command_on plain_way (at_of r ue) (terminal_of r ue) (terminal_of r ue).context))
      (command_each plain_way ues) (row_does ue r r _ p.0 (commanded_of r ue (terminal_of r ue) (terminal_of r ue).context) p)
      (λ s q. command_each_does ues s q)

  tick_does : (r : Record) → Invariant r → Does (tick plain_way r)
  unfolding tick
  tick_does r p =
      let on : Record = with_transactions r (record r.transactions { caller = after_tick r.transactions.caller }) in
      after (CuCp g) Invariant Invariant (due_each plain_way (due r.transactions.caller) on) (λ s. command_each plain_way (ues_of plain_way s) s)
      (due_each_does (due r.transactions.caller) on (due_are (CuCp g) r.transactions.caller p.1.opened)
      (p.0, ticked_keeps (CuCp g) r.transactions p.1))
      (λ s q. command_each_does (ues_of plain_way s) s q)

  -- ---- the table

  ordered_does : (order : Order) (r : Record) → Invariant r → Does (ordered plain_way order r)
  ordered_does (orders.Attach plan) r p = row_does plan.ue r r _ p.0 (attach_of (at_of r plan.ue) plan (terminal_of r plan.ue)) p
  ordered_does (orders.Handover plan) r p = row_does plan.ue r r _ p.0 (handover_of (at_of r plan.ue) plan (terminal_of r plan.ue)) p
  ordered_does (orders.Cancel ue) r p = row_does ue r r _ p.0 (cancel_is_of (at_of r ue) (terminal_of r ue)) p
  ordered_does (orders.Release ue) r p = row_does ue r r _ p.0 (release_of (at_of r ue) (terminal_of r ue)) p
  ordered_does order r p = (p, tt)

  pub cu_cp_does : (r : Record) (input : Input Token Pdu) → GivenOf (CuCp g) input → Invariant r → Does (cu_cp_acts plain_way r input)
  unfolding cu_cp_acts
  cu_cp_does r (control_input from m) is p = control_does from m r is p
  cu_cp_does r (packet_input teid item) is p = (p, tt)
  cu_cp_does r (radio_input ue bearer dir pdu content) is p = (p, tt)
  cu_cp_does r (confirm_input ue bearer dir pdu content) is p = (p, tt)
  cu_cp_does r (offer_input ue bearer x) is p = (p, tt)
  cu_cp_does r tick_input is p = tick_does r p
  cu_cp_does r (order_input order) is p = ordered_does order r p
