-- A CU-CP that names tunnels as it should goes on to: its rows are carried out, and it answers whatever comes.
use Rattle.std.proofs.Common.{◌≡◌, ℕ, Bool, true, false, cond, List, [], ◌∷◌, map, Option, Some, None, refl, sym, ◌∙◌, subst}
use Rattle.std.specs.Prelude.{if◌then◌else◌}
use Rattle.std.specs.List.{AllByRecursion}
use Rattle.std.specs.Ordering.{eq_by_cmp}
use Rattle.std.specs.Cmp.{Equal-is}
use Rattle.gnb_types.specs.declared.names.Gnb.{Gnb}
use Rattle.gnb_types.specs.declared.names.NodeId.{NodeId}
use Rattle.gnb_types.specs.declared.names.NodeId.TheVariants.{CuCp}
use Rattle.gnb_types.specs.declared.names.UeId.{UeId}
use Rattle.gnb_types.specs.declared.keys.Channel.{Channel}
use Rattle.gnb_types.specs.declared.inputs.Order.{Order}
use Rattle.gnb_types.specs.declared.inputs.Order.TheVariants as orders
use Rattle.gnb_types.specs.declared.reasons.DropReason.TheVariants.{Unexpected}
use Rattle.gnb_types.specs.Orders.{ue_cmp}
use Rattle.gnb_types.proofs.OrderLemmas.{ue_total, ue_exact}
use Rattle.message_types.specs.declared.f1.F1.TheVariants as f1s
use Rattle.message_types.specs.declared.e1.E1Message.TheVariants as e1s
use Rattle.message_types.specs.declared.xn.XnMessage.TheVariants as xns
use Rattle.tables.specs.Tables.{find}
use Rattle.tables.proofs.TableLaws.{find-put}
use Rattle.transaction_defs.specs.Callers.{due, Due, repeats, expires, after_tick, close}
use Rattle.unit_defs.specs.declared.StateName.{StateName}
use Rattle.unit_defs.specs.declared.StateName.TheVariants as states
use Rattle.unit_defs.specs.Ways.{Message, f1, e1, xn, Input, control_input, packet_input, radio_input, confirm_input, offer_input, tick_input, order_input, Way, Answer, gives, spent, ◌then◌, nothing, drops}
use Rattle.unit_defs.specs.Messages.{channel, shares_interface}
use Rattle.unit_defs.specs.Transactions.{Kind, request, reply, transfer, kind_of, Waiting, Transactions, Asked, waits_at, with_waiting, ask, ask_at_once, advance, replied, replied_late}
use Rattle.unit_defs.specs.CuCpRecords.{Awaited, Attempt, CuCpContext, CuCpTerminal, CuCpRecord, terminal_in, terminal_of, with_terminal, with_transactions, with_instance_of, is_from, awaiting, begun, on_attempt, on_context, with_attempt, waiting_of, after_begun, after_asked, noted, not_awaited, unawaited, forgotten, Action, asks, cancels, replies, replies_late, sends, fails, ignores, refuses, forgets, act_one, act_all, Row, row, row_spent, carry_out}
use Rattle.unit_defs.proofs.Terminals.{kept_so, kept_here}
use Rattle.unit_defs.specs.CuCp.{at_of, Answered, answers_none, answers_with, answer, is_cu_up_release, without_release, is_setup_failure, after_failed_setup, put_next, closed_at, answered_by, reply_received, with_unit, set_up, asked, token_received, transferred, control_by, control_received, expired_on, due_one, due_each, command_by, command_on, command_each, ues_of, tick, ordered, cu_cp_acts}
use Rattle.intervals.proofs.Intervals.{all_append}
use Rattle.proof_unit_steps.specs.tunnel_names.Names.{Property, Names, NamesFor, ue_of, OrderNames, InputNames, AnswerNames, KeptNames}
use Rattle.proof_unit_steps.specs.tunnel_names.CuCps.{asked_du, AwaitedOf, ContextNames, TerminalNames, CuCpNames}
use Rattle.proof_unit_steps.proofs.tunnel_names.Kept.{all_mapped, either, after, waits_name, with_waiting_names, closed_names, ask_names, advance_names, at_once_names, replied_names, late_names, on_request_names, on_reply_names, DueNames, due_names, ticked_names}
use Rattle.proof_unit_steps.proofs.tunnel_names.Rows.{key_of, awaits_at, MayAwait, SayNames, SaysName, RowNames, attach_names, handover_names, cancel_names, release_names, expires_names, command_names, offer_names, status_names, xn_cancelled_names, xn_released_names}
use Rattle.proof_unit_steps.proofs.tunnel_names.Answers.{AnsweredNames, answer_names, container_names}

module _ {M C P : Type 0} {way : Way M C P} (is : Property way) where
  abbrev Record : Type 0
  Record = CuCpRecord M C

  -- ---- terminals

  pub terminal_names : (gnb : Gnb) (r : Record) (ue : UeId) → CuCpNames is gnb r → TerminalNames is gnb ue (terminal_of r ue).context
  terminal_names gnb r ue p = by (find ue_cmp r.terminals ue) refl
    where
      by : (o : Option CuCpTerminal) → find ue_cmp r.terminals ue ≡ o → TerminalNames is gnb ue (terminal_in o).context
      by None e = tt
      by (Some t) e = p.terminals ue t e

  with_terminal_names : (gnb : Gnb) (r : Record) (ue : UeId) (t : CuCpTerminal) → CuCpNames is gnb r → TerminalNames is gnb ue t.context
      → CuCpNames is gnb (with_terminal ue r t)
  with_terminal_names gnb r ue t p h = record {
    own = p.own;
    terminals =
        kept_so (λ (es : List (UeId × CuCpTerminal)). (v : UeId) (x : CuCpTerminal) → find ue_cmp es v ≡ Some x → TerminalNames is gnb v x.context) r.terminals ue t
        (λ blank none. p.terminals) (λ v x e. by v x (eq_by_cmp ue_cmp v ue) refl (sym (find-put ue_total r.terminals ue t v) ∙ e));
    kept = p.kept;
  }
    where
      by : (v : UeId) (x : CuCpTerminal) (b : Bool) → eq_by_cmp ue_cmp v ue ≡ b → cond b (Some t) (find ue_cmp r.terminals v) ≡ Some x → TerminalNames is gnb v x.context
      by v x true tie e =
          let same : v ≡ ue = ue_exact v ue ((Equal-is (ue_cmp v ue)).0 tie) in
          let those : t ≡ x = cc in
          subst (λ (w : UeId). TerminalNames is gnb w x.context) (sym same) (subst (λ (y : CuCpTerminal). TerminalNames is gnb ue y.context) those h)
      by v x false apart e = p.terminals v x e

  -- the terminal that was put is found
  put_terminal : (r : Record) (ue : UeId) (t : CuCpTerminal) → terminal_of (with_terminal ue r t) ue ≡ t
  put_terminal r ue t = kept_here r.terminals ue t

  -- ---- what is carried out of a row, with these that may be awaited

  abbrev Holds : Gnb → UeId → Option (ℕ × ℕ) → Record → Type 0
  Holds gnb ue key r = CuCpNames is gnb r × (awaits_at (terminal_of r ue).context ≡ key)

  with_kept : (gnb : Gnb) (r : Record) (t : Transactions M C) → CuCpNames is gnb r → KeptNames is (CuCp gnb) t → CuCpNames is gnb (with_transactions r t)
  with_kept gnb r t p k = record { own = p.own; terminals = p.terminals; kept = k }

  -- another attempt, which awaits whom it may
  abbrev KeepsAwaits : Gnb → (Attempt → Attempt) → Option (ℕ × ℕ) → Type 0
  KeepsAwaits gnb f key =
      (ue : UeId) (c : Option CuCpContext) → awaits_at c ≡ key → TerminalNames is gnb ue c
      → TerminalNames is gnb ue (on_context f c) × (awaits_at (on_context f c) ≡ key)

  with_attempt_names : (gnb : Gnb) (ue : UeId) (key : Option (ℕ × ℕ)) (f : Attempt → Attempt) (r : Record) → KeepsAwaits gnb f key → Holds gnb ue key r
      → Holds gnb ue key (with_attempt ue f r)
  with_attempt_names gnb ue key f r each p =
      let t : CuCpTerminal = record (terminal_of r ue) { context = on_context f (terminal_of r ue).context } in
      let well = each ue (terminal_of r ue).context p.1 (terminal_names gnb r ue p.0) in (
        with_terminal_names gnb r ue t p.0 well.0,
        subst (λ (x : CuCpTerminal). awaits_at x.context ≡ key) (sym (put_terminal r ue t)) well.1,
      )

  awaiting_keeps : (gnb : Gnb) (key : Option (ℕ × ℕ)) (node : NodeId) → MayAwait gnb key node → KeepsAwaits gnb (λ a. awaiting a node) key
  awaiting_keeps gnb key node may ue None e n = (tt, e)
  awaiting_keeps gnb key node may ue (Some c) e n = by c.attempt e n
    where
      by : (o : Option Attempt) → key_of c o ≡ key → ContextNames is gnb ue c o
          → ContextNames is gnb ue (record c { attempt = on_attempt (λ a. awaiting a node) o }) (on_attempt (λ a. awaiting a node) o)
          × (key_of (record c { attempt = on_attempt (λ a. awaiting a node) o }) (on_attempt (λ a. awaiting a node) o) ≡ key)
      by None k m = (m, k)
      by (Some a) k m = (
        record {
          paths = m.paths;
          downlinks = m.downlinks;
          down = m.down;
          up = m.up;
          awaits = all_append (λ (w : Awaited). AwaitedOf gnb c.up (asked_du c a) w.from) a.awaits (record { from = node; instance = None } ∷ []) m.awaits
              (subst (λ (x : Option (ℕ × ℕ)). MayAwait gnb x node) (sym k) may, tt);
          at_goal = m.at_goal;
          sn = m.sn;
        },
        k,
      )

  begun_keeps : (gnb : Gnb) (key : Option (ℕ × ℕ)) (node : NodeId) (instance : ℕ) → KeepsAwaits gnb (λ a. begun a node instance) key
  begun_keeps gnb key node instance ue None e n = (tt, e)
  begun_keeps gnb key node instance ue (Some c) e n = by c.attempt e n
    where
      one : (a : Attempt) (w : Awaited) → AwaitedOf gnb c.up (asked_du c a) w.from → (b : Bool)
          → AwaitedOf gnb c.up (asked_du c a) (if b then record w { instance = Some instance } else w).from
      one a w q true = q
      one a w q false = q

      by : (o : Option Attempt) → key_of c o ≡ key → ContextNames is gnb ue c o
          → ContextNames is gnb ue (record c { attempt = on_attempt (λ a. begun a node instance) o }) (on_attempt (λ a. begun a node instance) o)
          × (key_of (record c { attempt = on_attempt (λ a. begun a node instance) o }) (on_attempt (λ a. begun a node instance) o) ≡ key)
      by None k m = (m, k)
      by (Some a) k m = (
        record {
          paths = m.paths;
          downlinks = m.downlinks;
          down = m.down;
          up = m.up;
          awaits = all_mapped (λ (w : Awaited). AwaitedOf gnb c.up (asked_du c a) w.from) (λ (w : Awaited). AwaitedOf gnb c.up (asked_du c a) w.from)
              (with_instance_of node instance) (λ w q. one a w q (is_from node w)) a.awaits m.awaits;
          at_goal = m.at_goal;
          sn = m.sn;
        },
        k,
      )

  module _ (gnb : Gnb) where
    abbrev Answers : {R : Type 0} → (R → Type 0) → Answer M P R → Type 0
    Answers Q a = AnswerNames is Q (CuCp gnb) a

    abbrev GoodAsked : Asked M C → Type 0
    GoodAsked a = KeptNames is (CuCp gnb) a.transactions

    begun_after : (ue : UeId) (key : Option (ℕ × ℕ)) (node : NodeId) (r : Record) (o : Option ℕ) → Holds gnb ue key r → Holds gnb ue key (after_begun way ue node r o)
    begun_after ue key node r None p = p
    begun_after ue key node r (Some instance) p = with_attempt_names gnb ue key (λ a. begun a node instance) r (begun_keeps gnb key node instance) p

    asked_after : (ue : UeId) (key : Option (ℕ × ℕ)) (node : NodeId) (r : Record) (a : Asked M C) → Holds gnb ue key r → GoodAsked a
        → Holds gnb ue key (after_asked way ue node r a)
    asked_after ue key node r a p k = begun_after ue key node (with_transactions r a.transactions) a.awaited (with_kept gnb r a.transactions p.0 k, p.1)

    noted_holds : (ue : UeId) (key : Option (ℕ × ℕ)) (node : NodeId) (b : Bool) (r : Record) → (b ≡ true → MayAwait gnb key node) → Holds gnb ue key r
        → Holds gnb ue key (noted way ue node b r)
    noted_holds ue key node true r may p = with_attempt_names gnb ue key (λ a. awaiting a node) r (awaiting_keeps gnb key node (may refl)) p
    noted_holds ue key node false r may p = p

    abbrev Each : Channel × List (Waiting C) → Type 0
    Each e = AllByRecursion (λ (w : Waiting C). Names is.owners (CuCp gnb) w.message) e.1

    forgotten_names : (ue : UeId) (t : Transactions M C) → KeptNames is (CuCp gnb) t → KeptNames is (CuCp gnb) (forgotten way ue t)
    forgotten_names ue t p = record { opened = p.opened; waiting = each t.waiting p.waiting; replies = p.replies }
      where
        one : (e : Channel × List (Waiting C)) → Each e → (b : Bool) → Each (if b then (e.0, map (not_awaited way) e.1) else e)
        one e q true =
            all_mapped (λ (w : Waiting C). Names is.owners (CuCp gnb) w.message) (λ (w : Waiting C). Names is.owners (CuCp gnb) w.message) (not_awaited way)
            (λ w x. x) e.1 q
        one e q false = q

        each : (es : List (Channel × List (Waiting C))) → AllByRecursion Each es → AllByRecursion Each (map (unawaited way ue) es)
        each [] q = tt
        each (e ∷ es) q = (one e q.0 _, each es q.1)

    say_names : (ue : UeId) (key : Option (ℕ × ℕ)) (r : Record) (s : Action C) → SayNames is gnb key s → Holds gnb ue key r → Answers (Holds gnb ue key) (act_one way ue r s)
    unfolding act_one
    say_names ue key r (asks to m deadline awaited) says p =
        after is (CuCp gnb) GoodAsked (Holds gnb ue key) (ask way r.transactions (channel ue.0 to) (waiting_of way m deadline awaited))
        (λ a. nothing (after_asked way ue to (noted way ue to awaited r) a))
        (ask_names is (CuCp gnb) r.transactions (channel ue.0 to) (waiting_of way m deadline awaited) p.0.kept says.0)
        (λ a k. (asked_after ue key to (noted way ue to awaited r) a (noted_holds ue key to awaited r says.1 p) k, tt))
    say_names ue key r (cancels to m) says p =
        after is (CuCp gnb) GoodAsked (Holds gnb ue key) (ask_at_once way r.transactions (channel ue.0 to) (waiting_of way m None false))
        (λ a. nothing (after_asked way ue to r a)) (at_once_names is (CuCp gnb) r.transactions (channel ue.0 to) (waiting_of way m None false) p.0.kept says)
        (λ a k. (asked_after ue key to r a p k, tt))
    say_names ue key r (replies to m) says p =
        after is (CuCp gnb) (KeptNames is (CuCp gnb)) (Holds gnb ue key) (replied way r.transactions (channel ue.0 to) m) (λ t. nothing (with_transactions r t))
        (replied_names is (CuCp gnb) r.transactions (channel ue.0 to) m p.0.kept says) (λ t k. ((with_kept gnb r t p.0 k, p.1), tt))
    say_names ue key r (replies_late to instance m) says p =
        after is (CuCp gnb) (KeptNames is (CuCp gnb)) (Holds gnb ue key) (replied_late way r.transactions (channel ue.0 to) instance m)
        (λ t. nothing (with_transactions r t)) (late_names is (CuCp gnb) r.transactions (channel ue.0 to) instance m p.0.kept says)
        (λ t k. ((with_kept gnb r t p.0 k, p.1), tt))
    say_names ue key r (sends to m) says p = (p, (is.spells (CuCp gnb) m says, tt))
    say_names ue key r (fails cause) says p = (p, (tt, tt))
    say_names ue key r (ignores reason) says p = (p, (tt, tt))
    say_names ue key r (refuses reason) says p = (p, (tt, tt))
    say_names ue key r forgets says p = ((with_kept gnb r (forgotten way ue r.transactions) p.0 (forgotten_names ue r.transactions p.0.kept), p.1), tt)

    say_all_names : (ue : UeId) (key : Option (ℕ × ℕ)) (ss : List (Action C)) (r : Record) → SaysName is gnb key ss → Holds gnb ue key r
        → Answers (Holds gnb ue key) (act_all way ue ss r)
    unfolding act_all
    say_all_names ue key [] r says p = (p, tt)
    say_all_names ue key (s ∷ ss) r says p =
        after is (CuCp gnb) (Holds gnb ue key) (Holds gnb ue key) (act_one way ue r s) (act_all way ue ss) (say_names ue key r s says.0 p)
        (λ q h. say_all_names ue key ss q says.1 h)

    abbrev Keeps : Answer M P Record → Type 0
    Keeps a = Answers (CuCpNames is gnb) a

    first_only : (ue : UeId) (key : Option (ℕ × ℕ)) (a : Answer M P Record) → Answers (Holds gnb ue key) a → Keeps a
    first_only ue key (gives os r) p = (p.0.0, p.1)
    first_only ue key (spent k) p = tt

    carried_names : (ue : UeId) (r : Record) (what : Row C) → RowNames is gnb ue what → CuCpNames is gnb r → Keeps (carry_out way ue r what)
    unfolding carry_out
    carried_names ue r (row says t) h p =
        first_only ue (awaits_at t.context) (act_all way ue says (with_terminal ue r t))
        (say_all_names ue (awaits_at t.context) says (with_terminal ue r t) h.1
        (with_terminal_names gnb r ue t p h.0, subst (λ (x : CuCpTerminal). awaits_at x.context ≡ awaits_at t.context) (sym (put_terminal r ue t)) refl))
    carried_names ue r (row_spent counter) h p = tt

    -- a row is made for the gNB of the record
    row_names : (ue : UeId) (r s : Record) (what : Row C) → CuCpNames is gnb r → (CuCpNames is r.gnb r → RowNames is r.gnb ue what) → CuCpNames is gnb s
        → Keeps (carry_out way ue s what)
    row_names ue r s what p each q =
        carried_names ue s what (subst (λ (g : Gnb). RowNames is g ue what) p.own (each (subst (λ (g : Gnb). CuCpNames is g r) (sym p.own) p))) q

    -- ---- replies

    next_names : (ue : UeId) (ch : Channel) (r : Record) → CuCpNames is gnb r → Keeps (put_next way ue ch r)
    next_names ue ch r p =
        after is (CuCp gnb) GoodAsked (CuCpNames is gnb) (advance way r.transactions ch) (λ a. nothing (after_asked way ue ch.peer r a))
        (advance_names is (CuCp gnb) r.transactions ch p.kept)
        (λ a k. ((asked_after ue (awaits_at (terminal_of r ue).context) ch.peer r a (p, refl) k).0, tt))

    closed_at_names : (ch : Channel) (r : Record) → CuCpNames is gnb r → CuCpNames is gnb (closed_at way ch r)
    closed_at_names ch r p = with_kept gnb r (record r.transactions { caller = close r.transactions.caller ch }) p (closed_names is (CuCp gnb) r.transactions ch p.kept)

    without_release_names : (ws : List (Waiting C)) → AllByRecursion (λ (w : Waiting C). Names is.owners (CuCp gnb) w.message) ws
        → AllByRecursion (λ (w : Waiting C). Names is.owners (CuCp gnb) w.message) (without_release way ws)
    without_release_names [] all = tt
    without_release_names (w ∷ ws) all = by (is_cu_up_release way w.message)
      where
        by : (b : Bool) → AllByRecursion (λ (v : Waiting C). Names is.owners (CuCp gnb) v.message) (if b then ws else w ∷ ws)
        by true = all.1
        by false = all

    failed_names : (m : Message C) (ch : Channel) (t : Transactions M C) → KeptNames is (CuCp gnb) t → KeptNames is (CuCp gnb) (after_failed_setup way m ch t)
    failed_names m ch t p = by (is_setup_failure way m)
      where
        by : (b : Bool) → KeptNames is (CuCp gnb) (if b then with_waiting t ch (without_release way (waits_at t ch)) else t)
        by true = with_waiting_names is (CuCp gnb) t ch (without_release way (waits_at t ch)) p (without_release_names (waits_at t ch) (waits_name is (CuCp gnb) t ch p))
        by false = p

    answered_by_names : (ue : UeId) (ch : Channel) (m : Message C) (r : Record) (a : Answered way) → CuCpNames is gnb r
        → (CuCpNames is r.gnb r → AnsweredNames is (at_of r ue) a) → Keeps (answered_by way ue ch m r a)
    answered_by_names ue ch m r answers_none p h =
        let c : Record = closed_at way ch r in
        let q : CuCpNames is gnb c = closed_at_names ch r p in
        next_names ue ch (with_transactions c (after_failed_setup way m ch c.transactions))
        (with_kept gnb c (after_failed_setup way m ch c.transactions) q (failed_names m ch c.transactions q.kept))
    answered_by_names ue ch m r (answers_with None) p h = (p, (tt, tt))
    answered_by_names ue ch m r (answers_with (Some what)) p h =
        after is (CuCp gnb) (CuCpNames is gnb) (CuCpNames is gnb) (carry_out way ue (closed_at way ch r) what) (put_next way ue ch)
        (row_names ue r (closed_at way ch r) what p h (closed_at_names ch r p)) (λ q k. next_names ue ch q k)

    reply_names : (ue : UeId) (ch : Channel) (instance : ℕ) (m : Message C) (r : Record) → NamesFor is.owners ch.peer ue m → CuCpNames is gnb r
        → Keeps (reply_received way ue ch instance m r)
    unfolding reply_received
    reply_names ue ch instance m r names p =
        answered_by_names ue ch m r (answer way (at_of r ue) ch.peer instance m (terminal_of r ue)) p
        (λ q. answer_names is (at_of r ue) ch.peer instance m (terminal_of r ue) names (terminal_names r.gnb r ue q))

    -- ---- requests and transfers

    set_up_names : (from : NodeId) (m : Message C) (r : Record) → Names is.owners (CuCp gnb) m → CuCpNames is gnb r → Keeps (set_up way from m r)
    set_up_names from m r names p =
        after is (CuCp gnb) (KeptNames is (CuCp gnb)) (CuCpNames is gnb) (replied way r.transactions (channel 0 from) m)
        (λ t. nothing (with_transactions (with_unit way from r) t)) (replied_names is (CuCp gnb) r.transactions (channel 0 from) m p.kept names)
        (λ t k. (record { own = p.own; terminals = p.terminals; kept = k }, tt))

    asked_names : (from : NodeId) (m : Message C) (r : Record) → Names is.owners from m → CuCpNames is gnb r → Keeps (asked way from m r)
    unfolding kind_of
    asked_names from (f1 (f1s.F1SetupRequest instance name)) r names p = set_up_names from (f1 (f1s.F1SetupResponse instance)) r tt p
    asked_names from (e1 (e1s.E1SetupRequest instance name)) r names p = set_up_names from (e1 (e1s.E1SetupResponse instance)) r tt p
    asked_names from (xn (xns.HandoverRequest ue instance epoch bearers sn quota peer du origin)) r names p =
        row_names ue r r _ p (λ q. offer_names is (at_of r ue) from peer.up du instance bearers sn quota epoch (terminal_of r ue) names (terminal_names r.gnb r ue q)) p
    asked_names from (xn (xns.SnStatusTransfer ue instance statuses)) r names p =
        row_names ue r r _ p (λ q. status_names is (at_of r ue) from instance statuses (terminal_of r ue) (terminal_names r.gnb r ue q)) p
    asked_names from (xn (xns.HandoverCancel ue instance)) r names p =
        row_names ue r r _ p (λ q. xn_cancelled_names is (at_of r ue) from instance (terminal_of r ue) (terminal_names r.gnb r ue q)) p
    asked_names from (xn (xns.UeContextRelease ue instance)) r names p =
        row_names ue r r _ p (λ q. xn_released_names is (at_of r ue) from instance (terminal_of r ue) (terminal_names r.gnb r ue q)) p
    asked_names from m r names p = (p, (tt, tt))

    transferred_names : (from : NodeId) (m : Message C) (r : Record) → CuCpNames is gnb r → Keeps (transferred way from m r)
    unfolding token_received
    transferred_names from (f1 (f1s.UlRrcMessageTransfer ue container)) r p =
        row_names ue r r _ p
        (λ q. container_names is (at_of r ue) from (terminal_of r ue) (terminal_of r ue).context (way.unwrap container) (terminal_names r.gnb r ue q)) p
    transferred_names from m r p = (p, (tt, tt))

    by_kind_names : (from : NodeId) (m : Message C) (r : Record) (k : Kind) → NamesFor is.owners from (ue_of k) m → Names is.owners from m → CuCpNames is gnb r
        → Keeps (control_by way from m r k)
    by_kind_names from m r (request ue i) names own p =
        on_request_names is (CuCp gnb) (CuCpNames is gnb) r r.transactions (channel ue from) i (λ t. asked way from m (with_transactions r t)) p p.kept
        (λ t k. asked_names from m (with_transactions r t) own (with_kept gnb r t p k))
    by_kind_names from m r (reply ue i) names own p =
        on_reply_names is (CuCp gnb) (CuCpNames is gnb) r r.transactions (channel ue from) i (reply_received way (record { 0 = ue }) (channel ue from) i m r) p
        (reply_names (record { 0 = ue }) (channel ue from) i m r names p)
    by_kind_names from m r (transfer ue) names own p = transferred_names from m r p

    control_names : (from : NodeId) (m : Message C) (r : Record) → Names is.owners from m → CuCpNames is gnb r → Keeps (control_received way from m r)
    unfolding control_received
    control_names from m r names p =
        either is (CuCp gnb) (CuCpNames is gnb) (shares_interface (CuCp r.gnb) from) (control_by way from m r (kind_of m)) (drops Unexpected r)
        (by_kind_names from m r (kind_of m) names names p) (p, (tt, tt))

    -- ---- a tick

    expired_names : (r : Record) (ue : UeId) → CuCpNames is r.gnb r → RowNames is r.gnb ue (expired_on way (at_of r ue) (terminal_of r ue) (terminal_of r ue).context)
    expired_names r ue q = by (terminal_of r ue).context (terminal_names r.gnb r ue q)
      where
        by : (o : Option CuCpContext) → TerminalNames is r.gnb ue o → RowNames is r.gnb ue (expired_on way (at_of r ue) (terminal_of r ue) o)
        by None n = (terminal_names r.gnb r ue q, tt)
        by (Some c) n = expires_names is (at_of r ue) (terminal_of r ue) c c.attempt n

    due_one_names : (r : Record) (d : Due M) → DueNames is (CuCp gnb) d → CuCpNames is gnb r → Keeps (due_one way r d)
    due_one_names r (repeats ch m) says p = (p, (says, tt))
    due_one_names r (expires ch) says p = row_names (record { 0 = ch.ue }) r r _ p (λ q. expired_names r (record { 0 = ch.ue }) q) p

    due_each_names : (ds : List (Due M)) (r : Record) → AllByRecursion (DueNames is (CuCp gnb)) ds → CuCpNames is gnb r → Keeps (due_each way ds r)
    due_each_names [] r all p = (p, tt)
    due_each_names (d ∷ ds) r all p =
        after is (CuCp gnb) (CuCpNames is gnb) (CuCpNames is gnb) (due_one way r d) (due_each way ds) (due_one_names r d all.0 p) (λ s q. due_each_names ds s all.1 q)

    commanded_names : (r : Record) (ue : UeId) → CuCpNames is r.gnb r → RowNames is r.gnb ue (command_on way (at_of r ue) (terminal_of r ue) (terminal_of r ue).context)
    commanded_names r ue q = by (terminal_of r ue).context (terminal_names r.gnb r ue q)
      where
        in_state : (c : CuCpContext) (state : StateName) (o : Option Attempt) → ContextNames is r.gnb ue c o
            → RowNames is r.gnb ue (command_by way (at_of r ue) (terminal_of r ue) c state o)
        in_state c states.Frozen (Some a) n = command_names is (at_of r ue) (terminal_of r ue) c a n
        in_state c states.Commanded (Some a) n = command_names is (at_of r ue) (terminal_of r ue) c a n
        in_state c state o n = (terminal_names r.gnb r ue q, tt)

        by : (o : Option CuCpContext) → TerminalNames is r.gnb ue o → RowNames is r.gnb ue (command_on way (at_of r ue) (terminal_of r ue) o)
        by None n = (terminal_names r.gnb r ue q, tt)
        by (Some c) n = in_state c c.state c.attempt n

    command_each_names : (ues : List UeId) (r : Record) → CuCpNames is gnb r → Keeps (command_each way ues r)
    command_each_names [] r p = (p, tt)
    command_each_names (ue ∷ ues) r p =
        after is (CuCp gnb) (CuCpNames is gnb) (CuCpNames is gnb)
        (carry_out way ue r (command_on way (at_of r ue) (terminal_of r ue) (terminal_of r ue).context)) (command_each way ues)
        (row_names ue r r _ p (commanded_names r ue) p) (λ s q. command_each_names ues s q)

    tick_names : (r : Record) → CuCpNames is gnb r → Keeps (tick way r)
    unfolding tick
    tick_names r p =
        let on : Record = with_transactions r (record r.transactions { caller = after_tick r.transactions.caller }) in
        after is (CuCp gnb) (CuCpNames is gnb) (CuCpNames is gnb) (due_each way (due r.transactions.caller) on) (λ s. command_each way (ues_of way s) s)
        (due_each_names (due r.transactions.caller) on (due_names is (CuCp gnb) r.transactions.caller p.kept.opened)
        (with_kept gnb r (record r.transactions { caller = after_tick r.transactions.caller }) p (ticked_names is (CuCp gnb) r.transactions p.kept)))
        (λ s q. command_each_names (ues_of way s) s q)

    -- ---- the table

    ordered_names : (order : Order) (r : Record) → OrderNames is.owners order → CuCpNames is gnb r → Keeps (ordered way order r)
    ordered_names (orders.Attach plan) r names p =
        row_names plan.ue r r _ p (λ q. attach_names is (at_of r plan.ue) plan (terminal_of r plan.ue) names (terminal_names r.gnb r plan.ue q)) p
    ordered_names (orders.Handover plan) r names p =
        row_names plan.ue r r _ p (λ q. handover_names is (at_of r plan.ue) plan (terminal_of r plan.ue) (terminal_names r.gnb r plan.ue q)) p
    ordered_names (orders.Cancel ue) r names p = row_names ue r r _ p (λ q. cancel_names is (at_of r ue) (terminal_of r ue) (terminal_names r.gnb r ue q)) p
    ordered_names (orders.Release ue) r names p = row_names ue r r _ p (λ q. release_names is (at_of r ue) (terminal_of r ue) (terminal_names r.gnb r ue q)) p
    ordered_names order r names p = (p, (tt, tt))

    pub cu_cp_names : (r : Record) (input : Input C P) → InputNames is input → CuCpNames is gnb r → Keeps (cu_cp_acts way r input)
    unfolding cu_cp_acts
    cu_cp_names r (control_input from m) names p = control_names from m r names p
    cu_cp_names r (packet_input teid item) names p = (p, (tt, tt))
    cu_cp_names r (radio_input ue bearer dir pdu content) names p = (p, (tt, tt))
    cu_cp_names r (confirm_input ue bearer dir pdu content) names p = (p, (tt, tt))
    cu_cp_names r (offer_input ue bearer x) names p = (p, (tt, tt))
    cu_cp_names r tick_input names p = tick_names r p
    cu_cp_names r (order_input order) names p = ordered_names order r names p
