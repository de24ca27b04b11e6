-- A CU-CP carries out its rows, and answers whatever comes: the TEID stays in one place.
use Rattle.std.proofs.Common.{◌≡◌, ◌≤◌, ◌==◌, ℕ, ◌+◌, Bool, true, false, cond, ◌⊎◌, inl, inr, not, ◌&&◌, List, [], ◌∷◌, map, filter, Option, Some, None, refl, sym, ap, subst, eqb-true, arith}
use Rattle.std.proofs.lemmas.Bool.{and_parts}
use Rattle.std.specs.Prelude.{if◌then◌else◌, unwrap_or}
use Rattle.std.specs.List.{AllByRecursion, flat_map}
use Rattle.std.specs.Map.{lookup}
use Rattle.std.specs.BTreeMap.{is_at}
use Rattle.std.specs.Ordering.{eq_by_cmp}
use Rattle.std.specs.Cmp.{Equal-is}
use Rattle.gnb_types.specs.declared.names.Gnb.{Gnb}
use Rattle.gnb_types.specs.declared.names.NodeId.{NodeId}
use Rattle.gnb_types.specs.declared.names.NodeId.TheVariants.{CuCp}
use Rattle.gnb_types.specs.declared.names.UeId.{UeId}
use Rattle.gnb_types.specs.declared.names.BearerId.{BearerId}
use Rattle.gnb_types.specs.declared.keys.Channel.{Channel}
use Rattle.gnb_types.specs.declared.plans.Tunnel.{Tunnel}
use Rattle.gnb_types.specs.declared.inputs.Order.{Order}
use Rattle.gnb_types.specs.declared.inputs.Order.TheVariants as orders
use Rattle.gnb_types.specs.declared.reasons.DropReason.TheVariants.{Stale, Unexpected}
use Rattle.gnb_types.specs.Orders.{ue_cmp, channel_cmp}
use Rattle.gnb_types.proofs.OrderLemmas.{ue_total, ue_exact, channel_exact}
use Rattle.message_types.specs.declared.f1.F1.TheVariants as f1s
use Rattle.message_types.specs.declared.e1.E1Message.TheVariants as e1s
use Rattle.message_types.specs.declared.xn.XnMessage.TheVariants as xns
use Rattle.tables.specs.Tables.{find, without, at}
use Rattle.tables.proofs.TableLaws.{find-put}
use Rattle.transaction_defs.specs.Callers.{Opened, Caller, is_awaited, due, Due, repeats, expires, is_last, repeated, due_of, aged, after_tick, close}
use Rattle.transaction_defs.specs.Callees.{Kept, kept_at, Verdict, new, again, stale, verdict, taken, reply_in, kept_reply, with_reply, keep, newest, is_newest, keep_for}
use Rattle.unit_defs.specs.declared.StateName.{StateName}
use Rattle.unit_defs.specs.declared.StateName.TheVariants as states
use Rattle.unit_defs.specs.Ways.{Message, f1, e1, xn, Input, control_input, packet_input, radio_input, confirm_input, offer_input, tick_input, order_input, Output, control, Way, Answer, gives, spent, with_outputs, ◌then◌, nothing, drops}
use Rattle.unit_defs.specs.Messages.{channel, shares_interface}
use Rattle.unit_defs.specs.Transactions.{Kind, request, reply, transfer, kind_of, Waiting, Transactions, Asked, waits_at, with_waiting, ask, ask_at_once, advance, replied, replied_late, answered_again, request_by, on_request, on_reply}
use Rattle.unit_defs.specs.CuCpRecords.{Attempt, CuCpContext, CuCpTerminal, CuCpRecord, terminal_in, terminal_of, with_terminal, with_transactions, awaiting, begun, on_attempt, on_context, with_attempt, waiting_of, after_begun, after_asked, noted, not_awaited, unawaited, forgotten, Action, asks, cancels, replies, replies_late, sends, fails, ignores, refuses, forgets, act_one, act_all, Row, row, row_spent, carry_out}
use Rattle.unit_defs.proofs.Terminals.{kept_so, kept_here}
use Rattle.unit_defs.specs.CuCp.{at_of, Answered, answers_none, answers_with, answer, is_cu_up_release, without_release, is_setup_failure, after_failed_setup, put_next, closed_at, answered_by, reply_received, set_up, asked as asked_row, token_received, transferred, control_by, control_received, expired_on, due_one, due_each, command_by, command_on, command_each, ues_of, tick, ordered, cu_cp_acts}
use Rattle.intervals.proofs.Intervals.{all_append, all_filter}
use Rattle.proof_unit_steps.proofs.packets.Answers.{found, each_put}
use Rattle.proof_unit_steps.specs.tunnel_names.Names.{Property, Names, NamesFor, ue_of, InputNames}
use Rattle.proof_unit_steps.specs.tunnel_names.CuCps.{CuCpNames}
use Rattle.proof_unit_steps.proofs.tunnel_names.Kept.{all_mapped}
use Rattle.proof_unit_steps.proofs.tunnel_names.CuCps.{terminal_names}
use Rattle.proof_unit_steps.specs.downlink_names.Places.{DownlinkTeid, du_of_teid, Grant, Place, away, known, waits, asked, placed, Story, Granted, OnAnswer, NoSwitch, AnswerIs, SwitchIs}
use Rattle.proof_unit_steps.specs.downlink_names.Claims.{HasClosed, IsClosed, KeptIs, PutIs, RequestIs, AreMarked, TransactionsAre, HeldIn, HeldBy, CuCpIs, CuCpHas, InputIs, CuCpGoes}
use Rattle.proof_unit_steps.proofs.downlink_names.Moves.{gives_by, on_answer, from_known, nowhere, same_channel, Moves, stays_there, moves_then, take, take_keeps, Asks}
use Rattle.proof_unit_steps.proofs.downlink_names.Begins.{all_as, LastOf, close_last, close_closes, closed_more, awaited_closes, shut_not_awaited, marked_by, put_stays, plain_put, opens_stay, from_nowhere, AskedIs, Went, ask_went, advance_went, closed_are, with_waiting_are, at_once_went}
use Rattle.proof_unit_steps.proofs.downlink_names.Rows.{SayIs, AllPlain, Switches, Settled, RowIs, attach_is, handover_is, cancel_is, release_is, expires_is, command_is, offer_is, status_is, xn_cancelled_is, xn_released_is}
use Rattle.proof_unit_steps.proofs.downlink_names.Answers.{AnsweredIs, IsGiven, answer_is, container_is}

-- ---- contexts of terminals

module _ (d : DownlinkTeid) where
  held_stays : (p q : Place) (ue : UeId) (c : Option CuCpContext) → ((b : BearerId) → p ≡ known ue.0 b → q ≡ known ue.0 b) → HeldBy d p ue c → HeldBy d q ue c
  held_stays p q ue None each h = tt
  held_stays p q ue (Some c) each h = by c.attempt h
    where
      by : (o : Option Attempt) → HeldIn d p ue c.state o → HeldIn d q ue c.state o
      by None k = tt
      by (Some a) k = λ unused same. gives_by d.teid p q (known ue.0) (known ue.0) a.downlinks each (k unused same)

  -- another attempt with the same tunnels
  held_on : (q : Place) (ue : UeId) (f : Attempt → Attempt) (c : Option CuCpContext)
      → ((state : StateName) (a : Attempt) → HeldIn d q ue state (Some a) → HeldIn d q ue state (Some (f a))) → HeldBy d q ue c → HeldBy d q ue (on_context f c)
  held_on q ue f None each h = tt
  held_on q ue f (Some c) each h = by c.attempt h
    where
      by : (o : Option Attempt) → HeldIn d q ue c.state o → HeldIn d q ue c.state (on_attempt f o)
      by None k = tt
      by (Some a) k = each c.state a k

module _ (d : DownlinkTeid) {C P : Type 0} (way : Way (Message C) C P) (same : (m : Message C) → way.encode m ≡ m) (g : Option Grant) where
  abbrev Record : Type 0
  Record = CuCpRecord (Message C) C

  abbrev Held : Place → Record → Type 0
  Held q r = (ue : UeId) → HeldBy d q ue (terminal_of r ue).context

  held_put : (q : Place) (r : Record) (ue : UeId) (t : CuCpTerminal) → Held q r → HeldBy d q ue t.context → Held q (with_terminal ue r t)
  held_put q r ue t h here v =
      kept_so (λ (es : List (UeId × CuCpTerminal)). HeldBy d q v (terminal_in (find ue_cmp es v)).context) r.terminals ue t (λ blank none. h v)
      (subst (λ (o : Option CuCpTerminal). HeldBy d q v (terminal_in o).context) (sym (find-put ue_total r.terminals ue t v)) (by (eq_by_cmp ue_cmp v ue) refl))
    where
      by : (b : Bool) → eq_by_cmp ue_cmp v ue ≡ b → HeldBy d q v (terminal_in (cond b (Some t) (find ue_cmp r.terminals v))).context
      by true tie = subst (λ (w : UeId). HeldBy d q w t.context) (sym (ue_exact v ue ((Equal-is (ue_cmp v ue)).0 tie))) here
      by false off = h v

  held_attempt : (q : Place) (ue : UeId) (f : Attempt → Attempt) (r : Record)
      → ((state : StateName) (a : Attempt) → HeldIn d q ue state (Some a) → HeldIn d q ue state (Some (f a))) → Held q r → Held q (with_attempt ue f r)
  held_attempt q ue f r each h =
      held_put q r ue (record (terminal_of r ue) { context = on_context f (terminal_of r ue).context }) h (held_on d q ue f (terminal_of r ue).context each (h ue))

  noted_held : (q : Place) (ue : UeId) (node : NodeId) (b : Bool) (r : Record) → Held q r → Held q (noted way ue node b r)
  noted_held q ue node true r h = held_attempt q ue (λ a. awaiting a node) r (λ state a k. k) h
  noted_held q ue node false r h = h

  asked_is : (q : Place) (high : ℕ) (ue : UeId) (node : NodeId) (r : Record) (x : Asked (Message C) C) → Held q r → TransactionsAre d g q high x.transactions
      → CuCpIs d g q high (after_asked way ue node r x)
  asked_is q high ue node r x h k = by x.awaited
    where
      by : (o : Option ℕ) → CuCpIs d g q high (after_begun way ue node (with_transactions r x.transactions) o)
      by None = record { transactions = k; contexts = h }
      by (Some i) = record {
        transactions = k;
        contexts = held_attempt q ue (λ a. begun a node i) (with_transactions r x.transactions) (λ state a held. held) h;
      }

  noted_transactions : (ue : UeId) (node : NodeId) (b : Bool) (r : Record) → (noted way ue node b r).transactions ≡ r.transactions
  noted_transactions ue node true r = refl
  noted_transactions ue node false r = refl

  -- ---- answers that leave it at this place; one after another

  abbrev Puts : Place → List (Output (Message C) P) → Type 0
  Puts q os = AllByRecursion (PutIs d q) os

  abbrev Stays : Place → Answer (Message C) P (CuCpRecord (Message C) C) → Type 0
  Stays q (gives os r) = (high : ℕ) × AllByRecursion (PutIs d q) os × CuCpIs d g q high r
  Stays q (spent counter) = Unit {0}

  abbrev Goes : Place → Answer (Message C) P (CuCpRecord (Message C) C) → Type 0
  Goes p a = (q : Place) × Moves p q × Stays q a

  same_place : (p : Place) (a : Answer (Message C) P Record) → Stays p a → Goes p a
  same_place p a h = (p, stays_there p, h)

  stays_then : (q : Place) (a : Answer (Message C) P Record) (f : Record → Answer (Message C) P Record) → Stays q a
      → ((high : ℕ) (r : Record) → CuCpIs d g q high r → Stays q (f r)) → Stays q (a then f)
  stays_then q (gives os r) f h each = by (f r) (each h.0 r h.2)
    where
      by : (b : Answer (Message C) P Record) → Stays q b → Stays q (with_outputs os b)
      by (gives more s) k = (k.0, all_append (PutIs d q) os more h.1 k.1, k.2)
      by (spent counter) k = tt
  stays_then q (spent counter) f h each = tt

  puts_stay : (p q : Place) (os : List (Output (Message C) P)) → Asks p q → Puts p os → Puts q os
  puts_stay p q os stay all = all_as (PutIs d p) (PutIs d q) os (λ o h. put_stays d p q o stay h) all

  goes_then : (p : Place) (a : Answer (Message C) P Record) (f : Record → Answer (Message C) P Record) → Goes p a
      → ((q : Place) (high : ℕ) (r : Record) → Moves p q → CuCpIs d g q high r → Goes q (f r)) → Goes p (a then f)
  goes_then p (gives os r) f h each = by (f r) (each h.0 h.2.0 r h.1 h.2.2)
    where
      by : (b : Answer (Message C) P Record) → Goes h.0 b → Goes p (with_outputs os b)
      by (gives more s) k =
          (k.0, moves_then p h.0 k.0 h.1 k.1, (k.2.0, all_append (PutIs d k.0) os more (puts_stay h.0 k.0 os k.1.asks h.2.1) k.2.1, k.2.2))
      by (spent counter) k = (h.0, h.1, tt)
  goes_then p (spent counter) f h each = (h.0, h.1, tt)

  asked_then : (q : Place) (a : Answer (Message C) P (Asked (Message C) C)) (f : Asked (Message C) C → Record) → AskedIs d g q a
      → ((high : ℕ) (x : Asked (Message C) C) → TransactionsAre d g q high x.transactions → CuCpIs d g q high (f x)) → Stays q (a then (λ x. nothing (f x)))
  asked_then q (gives os x) f h each = (h.0, all_append (PutIs d q) os [] h.1 tt, each h.0 x h.2)
  asked_then q (spent counter) f h each = tt

  -- ---- what a row says

  abbrev Kepts : List (Channel × Kept (Message C)) → Type 0
  Kepts es = AllByRecursion (λ (e : Channel × Kept (Message C)). KeptIs e.1.reply) es

  keep_is : (r : List (Channel × Kept (Message C))) (c : Channel) (m : Message C) → NoSwitch m → Kepts r → Kepts (keep r c (way.encode m))
  unfolding keep
  keep_is r c m none all = by (kept_at r c)
    where
      by : (o : Option (Kept (Message C))) → Kepts (with_reply r c (way.encode m) o)
      by None = all
      by (Some k) =
          each_put channel_cmp (λ (x : Kept (Message C)). KeptIs x.reply) r c (record k { reply = Some (way.encode m) }) all
          (subst (λ (n : Message C). NoSwitch n) (sym (same m)) none)

  with_callee : (q : Place) (high : ℕ) (x : Transactions (Message C) C) (r : List (Channel × Kept (Message C))) → TransactionsAre d g q high x → Kepts r
      → TransactionsAre d g q high (record x { callee = r })
  unfolding waits_at
  with_callee q high x r h all = record { opened = h.opened; last = h.last; waiting = h.waiting; kept = all; closed = h.closed }

  with_kept : (q : Place) (high : ℕ) (r : Record) (x : Transactions (Message C) C) → CuCpIs d g q high r → TransactionsAre d g q high x → CuCpIs d g q high (with_transactions r x)
  with_kept q high r x h k = record { transactions = k; contexts = h.contexts }

  spelled_put : (q : Place) (to : NodeId) (m : Message C) → NoSwitch m → SwitchIs d q to (way.encode m)
  spelled_put q to m none = plain_put d q to (way.encode m) (subst (λ (n : Message C). NoSwitch n) (sym (same m)) none)

  forgotten_is : (q : Place) (high : ℕ) (ue : UeId) (x : Transactions (Message C) C) → TransactionsAre d g q high x → TransactionsAre d g q high (forgotten way ue x)
  unfolding waits_at at find
  forgotten_is q high ue x h =
      record { opened = h.opened; last = h.last; waiting = λ ch. each ch x.waiting (h.waiting ch); kept = h.kept; closed = h.closed }
    where
      unmarked : (ch : Channel) (low : ℕ) (ws : List (Waiting C)) → AreMarked d q ch low high ws → AreMarked d q ch low high (map (not_awaited way) ws)
      unmarked ch low [] k = tt
      unmarked ch low (w ∷ ws) k = (k.0, k.1, k.2, k.3, unmarked ch (k.0 + 1) ws k.4)

      each : (ch : Channel) (es : List (Channel × List (Waiting C))) → AreMarked d q ch 0 high (unwrap_or (lookup (is_at (channel_cmp ch)) es) [])
          → AreMarked d q ch 0 high (unwrap_or (lookup (is_at (channel_cmp ch)) (map (unawaited way ue) es)) [])
      each ch [] k = tt
      each ch (e ∷ es) k = by (e.0.ue == ue.0) (each ch es)
        where
          found_as : (ws : List (Waiting C)) → (AreMarked d q ch 0 high e.1 → AreMarked d q ch 0 high ws) → (here : Bool)
              → (AreMarked d q ch 0 high (unwrap_or (lookup (is_at (channel_cmp ch)) es) [])
              → AreMarked d q ch 0 high (unwrap_or (lookup (is_at (channel_cmp ch)) (map (unawaited way ue) es)) []))
              → AreMarked d q ch 0 high (unwrap_or (cond here (Some e.1) (lookup (is_at (channel_cmp ch)) es)) [])
              → AreMarked d q ch 0 high (unwrap_or (cond here (Some ws) (lookup (is_at (channel_cmp ch)) (map (unawaited way ue) es))) [])
          found_as ws so true rest m = so m
          found_as ws so false rest m = rest m

          by : (own : Bool) → (AreMarked d q ch 0 high (unwrap_or (lookup (is_at (channel_cmp ch)) es) [])
              → AreMarked d q ch 0 high (unwrap_or (lookup (is_at (channel_cmp ch)) (map (unawaited way ue) es)) []))
              → AreMarked d q ch 0 high (unwrap_or (lookup (is_at (channel_cmp ch))
              ((if own then (e.0, map (not_awaited way) e.1) else e) ∷ map (unawaited way ue) es)) [])
          by true rest = found_as (map (not_awaited way) e.1) (unmarked ch 0 e.1) (is_at (channel_cmp ch) e.0) rest k
          by false rest = found_as e.1 (λ m. m) (is_at (channel_cmp ch) e.0) rest k

  -- what switches nothing leaves it where it is
  say_plain : (p : Place) (high : ℕ) (ue : UeId) (r : Record) (s : Action C) → SayIs d s → CuCpIs d g p high r → Stays p (act_one way ue r s)
  unfolding act_one replied replied_late keep_for
  say_plain p high ue r (asks to m deadline awaited) none h =
      let went = ask_went d way same g p nowhere high r.transactions (channel ue.0 to) (waiting_of way m deadline awaited) tt
      (from_nowhere d p (channel ue.0 to) m none) h.transactions in
      asked_then p (ask way r.transactions (channel ue.0 to) (waiting_of way m deadline awaited)) (after_asked way ue to (noted way ue to awaited r))
      (subst (λ (q : Place). AskedIs d g q (ask way r.transactions (channel ue.0 to) (waiting_of way m deadline awaited))) (went.from_none refl) went.is)
      (λ i x k. asked_is p i ue to (noted way ue to awaited r) x (noted_held p ue to awaited r h.contexts) k)
  say_plain p high ue r (cancels to m) none h =
      let went = at_once_went d way same g p high r.transactions (channel ue.0 to) (waiting_of way m None false) none h.transactions in
      asked_then p (ask_at_once way r.transactions (channel ue.0 to) (waiting_of way m None false)) (after_asked way ue to r)
      (subst (λ (q : Place). AskedIs d g q (ask_at_once way r.transactions (channel ue.0 to) (waiting_of way m None false))) (went.from_none refl) went.is)
      (λ i x k. asked_is p i ue to r x h.contexts k)
  say_plain p high ue r (replies to m) none h = (
    high,
    (spelled_put p to m none, tt),
    with_kept p high r (record r.transactions { callee = keep r.transactions.callee (channel ue.0 to) (way.encode m) }) h
        (with_callee p high r.transactions (keep r.transactions.callee (channel ue.0 to) (way.encode m)) h.transactions
        (keep_is r.transactions.callee (channel ue.0 to) m none h.transactions.kept)),
  )
  say_plain p high ue r (replies_late to i m) none h = (
    high,
    (spelled_put p to m none, tt),
    by (is_newest (newest r.transactions.callee (channel ue.0 to)) i),
  )
    where
      by : (b : Bool) → CuCpIs d g p high (with_transactions r (record r.transactions {
        callee = if b then keep r.transactions.callee (channel ue.0 to) (way.encode m) else r.transactions.callee;
      }))
      by true =
          with_kept p high r (record r.transactions { callee = keep r.transactions.callee (channel ue.0 to) (way.encode m) }) h
          (with_callee p high r.transactions (keep r.transactions.callee (channel ue.0 to) (way.encode m)) h.transactions
          (keep_is r.transactions.callee (channel ue.0 to) m none h.transactions.kept))
      by false = with_kept p high r r.transactions h h.transactions
  say_plain p high ue r (sends to m) none h = (high, (spelled_put p to m none, tt), h)
  say_plain p high ue r (fails cause) none h = (high, (tt, tt), h)
  say_plain p high ue r (ignores reason) none h = (high, (tt, tt), h)
  say_plain p high ue r (refuses reason) none h = (high, (tt, tt), h)
  say_plain p high ue r forgets none h =
      (high, tt, with_kept p high r (forgotten way ue r.transactions) h (forgotten_is p high ue r.transactions h.transactions))

  all_plain : (p : Place) (high : ℕ) (ue : UeId) (ss : List (Action C)) (r : Record) → AllPlain d ss → CuCpIs d g p high r → Stays p (act_all way ue ss r)
  unfolding act_all
  all_plain p high ue [] r none h = (high, tt, h)
  all_plain p high ue (s ∷ ss) r none h =
      stays_then p (act_one way ue r s) (act_all way ue ss) (say_plain p high ue r s none.0 h) (λ i q k. all_plain p i ue ss q none.1 k)

  -- what switches bearers moves it on from the terminal's attempt, which may not say so again
  say_switch : (p : Place) (high : ℕ) (ue : UeId) (r : Record) (s : Action C) → Switches d p ue s → Settled d ue (terminal_of r ue).context → CuCpIs d g p high r
      → Goes p (act_one way ue r s)
  unfolding act_one
  say_switch p high ue r (asks to m deadline awaited) from settled h = (
    went.place,
    went.moves,
    asked_then went.place (ask way r.transactions (channel ue.0 to) (waiting_of way m deadline awaited)) (after_asked way ue to (noted way ue to awaited r)) went.is
        (λ i x k. asked_is went.place i ue to (noted way ue to awaited r) x (noted_held went.place ue to awaited r held) k),
  )
    where
      went : Went d {P = P} g p (from_known ue.0) (ask way r.transactions (channel ue.0 to) (waiting_of way m deadline awaited))
      went = ask_went d way same g p (from_known ue.0) high r.transactions (channel ue.0 to) (waiting_of way m deadline awaited) tt from h.transactions

      held : Held went.place r
      held v = by (v.0 == ue.0) refl
        where
          by : (b : Bool) → v.0 == ue.0 ≡ b → HeldBy d went.place v (terminal_of r v).context
          by true e =
              let one : v ≡ ue = ap (λ (n : ℕ). record { 0 = n }) (eqb-true v.0 ue.0 e) in
              subst (λ (w : UeId). HeldBy d went.place w (terminal_of r w).context) (sym one) (settled went.place)
          by false e = held_stays d p went.place v (terminal_of r v).context (λ b k. went.keeps v.0 b e k) (h.contexts v)
  say_switch p high ue r s from settled h = absurd from

  carried : (p : Place) (high : ℕ) (ue : UeId) (r : Record) (what : Row C) → RowIs d p ue what → CuCpIs d g p high r → Goes p (carry_out way ue r what)
  unfolding carry_out act_all
  carried p high ue r (row says t) (inl is) h =
      same_place p (act_all way ue says (with_terminal ue r t))
      (all_plain p high ue says (with_terminal ue r t) is.0 (record { transactions = h.transactions; contexts = held_put p r ue t h.contexts is.1 }))
  carried p high ue r (row [] t) (inr is) h = absurd is
  carried p high ue r (row (s ∷ ss) t) (inr is) h =
      let on : Record = with_terminal ue r t in
      goes_then p (act_one way ue on s) (act_all way ue ss)
      (say_switch p high ue on s is.0 (subst (λ (x : CuCpTerminal). Settled d ue x.context) (sym (kept_here r.terminals ue t)) is.1)
      (record { transactions = h.transactions; contexts = held_put p r ue t h.contexts (is.1 p) }))
      (λ q i x moves k. same_place q (act_all way ue ss x) (all_plain q i ue ss x is.2 k))
  carried p high ue r (row_spent counter) is h = (p, stays_there p, tt)

  -- ---- replies

  next_goes : (p : Place) (high : ℕ) (ue : UeId) (ch : Channel) (r : Record) → CuCpIs d g p high r → Goes p (put_next way ue ch r)
  next_goes p high ue ch r h =
      let a = advance_went d way same g p high r.transactions ch h.transactions in
      let went = a.2 in (
        went.place,
        went.moves,
        asked_then went.place (advance way r.transactions ch) (after_asked way ue ch.peer r) went.is
            (λ i x k. asked_is went.place i ue ch.peer r x
            (λ v. held_stays d p went.place v (terminal_of r v).context (λ b e. went.keeps v.0 b (a.1 v.0) e) (h.contexts v)) k),
      )

  closed_is : (p : Place) (high : ℕ) (ch : Channel) (r : Record) → CuCpIs d g p high r → CuCpIs d g p high (closed_at way ch r)
  closed_is p high ch r h = record { transactions = closed_are d way same g p high r.transactions ch h.transactions; contexts = h.contexts }

  -- taken from an awaited answer, whose request is closed then
  take_closes : (o : Option Grant) (ch : Channel) (i ue : ℕ) (caller : Caller (Message C)) (p : Place) → ((p ≡ away → ⊥) → HasClosed caller o) → LastOf caller
      → is_awaited caller ch i ≡ true → (take o ch i ue p ≡ away → ⊥) → HasClosed (close caller ch) o
  take_closes None ch i ue caller p closed last is not = tt
  take_closes (Some x) ch i ue caller p closed last is not = by p closed not
    where
      here : (t : Bool) → same_channel x.channel ch && x.instance == i ≡ t → ((if t then known ue x.bearer else away) ≡ away → ⊥) → HasClosed (close caller ch) (Some x)
      here true e k =
          let parts = and_parts (same_channel x.channel ch) (x.instance == i) e in
          let one : x.channel ≡ ch = channel_exact x.channel ch ((Equal-is (channel_cmp x.channel ch)).0 parts.0) in
          let two : x.instance ≡ i = eqb-true x.instance i parts.1 in
          subst (λ (c : Channel). IsClosed (close caller ch) c x.instance) (sym one)
          (subst (λ (n : ℕ). IsClosed (close caller ch) ch n) (sym two) (awaited_closes caller ch i last is))
      here false e k = absurd (k refl)

      old : (q : Place) → ((q ≡ away → ⊥) → HasClosed caller (Some x)) → (q ≡ away → ⊥) → HasClosed (close caller ch) (Some x)
      old q k apart = closed_more caller (close caller ch) (Some x) (close_closes caller ch) (k apart)

      by : (q : Place) → ((q ≡ away → ⊥) → HasClosed caller (Some x)) → (take (Some x) ch i ue q ≡ away → ⊥) → HasClosed (close caller ch) (Some x)
      by away k n = here (same_channel x.channel ch && x.instance == i) refl n
      by (known u b) k n = old (known u b) k n
      by (waits c m b) k n = old (waits c m b) k n
      by (asked c m b) k n = old (asked c m b) k n
      by placed k n = old placed k n

  take_asks : (ch : Channel) (i ue : ℕ) (p : Place) → Asks p (take g ch i ue p)
  take_asks ch i ue p c n b e = take_keeps g ch i ue p (asked c n b) tt e

  taken_is : (p : Place) (high : ℕ) (ch : Channel) (i ue : ℕ) (r : Record) → is_awaited r.transactions.caller ch i ≡ true → CuCpIs d g p high r
      → CuCpIs d g (take g ch i ue p) high (closed_at way ch r)
  unfolding close without waits_at
  taken_is p high ch i ue r is h =
      let q : Place = take g ch i ue p in
      let x = h.transactions in record {
        transactions = record {
          opened = all_filter (λ (e : Channel × Opened (Message C)). RequestIs d q e.0.peer e.1.request) (λ e. not (is_at (channel_cmp ch) e.0)) r.transactions.caller.opened
              (opens_stay d p q r.transactions.caller (take_asks ch i ue p) x.opened);
          last = close_last r.transactions.caller ch x.last;
          waiting = λ c. marked_by d p q c 0 0 high high (waits_at r.transactions c) (omega arith) (omega arith)
              (λ m b up e. take_keeps g ch i ue p (waits c m b) tt e) (x.waiting c);
          kept = x.kept;
          closed = take_closes g ch i ue r.transactions.caller p x.closed x.last is;
        };
        contexts = λ v. held_stays d p q v (terminal_of r v).context (λ b e. take_keeps g ch i ue p (known v.0 b) tt e) (h.contexts v);
      }

  without_release_is : (p : Place) (ch : Channel) (high : ℕ) (ws : List (Waiting C)) → AreMarked d p ch 0 high ws → AreMarked d p ch 0 high (without_release way ws)
  without_release_is p ch high [] h = tt
  without_release_is p ch high (w ∷ ws) h = by (is_cu_up_release way w.message)
    where
      by : (b : Bool) → AreMarked d p ch 0 high (if b then ws else w ∷ ws)
      by true = marked_by d p p ch (h.0 + 1) 0 high high ws (omega arith) (omega arith) (λ m b up e. e) h.4
      by false = h

  failed_is : (p : Place) (high : ℕ) (m : Message C) (ch : Channel) (x : Transactions (Message C) C) → TransactionsAre d g p high x
      → TransactionsAre d g p high (after_failed_setup way m ch x)
  failed_is p high m ch x h = by (is_setup_failure way m)
    where
      by : (b : Bool) → TransactionsAre d g p high (if b then with_waiting x ch (without_release way (waits_at x ch)) else x)
      by true =
          with_waiting_are d way same g p high x ch (without_release way (waits_at x ch)) h (without_release_is p ch high (waits_at x ch) (h.waiting ch))
      by false = h

  -- what a step comes to, also where it was taken from an answer
  pub record Later (p q : Place) : Type 0 where
    pub asks : Asks p q
    pub places : p ≡ placed → q ≡ placed
    pub aways : g ≡ None → p ≡ away → q ≡ away

  abbrev Ends : Place → Answer (Message C) P (CuCpRecord (Message C) C) → Type 0
  Ends p a = (q : Place) × Later p q × Stays q a

  ends_of : (p : Place) (a : Answer (Message C) P Record) → Goes p a → Ends p a
  ends_of p a h = (h.0, record { asks = h.1.asks; places = h.1.places; aways = λ none e. h.1.aways e }, h.2)

  take_none : (o : Option Grant) (ch : Channel) (i ue : ℕ) (p : Place) → o ≡ None → p ≡ away → take o ch i ue p ≡ away
  take_none None ch i ue p none e = e
  take_none (Some x) ch i ue p none e = absurd cc

  ends_taken : (ch : Channel) (i ue : ℕ) (p : Place) (a : Answer (Message C) P Record) → Goes (take g ch i ue p) a → Ends p a
  ends_taken ch i ue p a h = (
    h.0,
    record {
      asks = λ c n b e. h.1.asks c n b (take_asks ch i ue p c n b e);
      places = λ e. h.1.places (take_keeps g ch i ue p placed tt e);
      aways = λ none e. h.1.aways (take_none g ch i ue p none e);
    },
    h.2,
  )

  answered_ends : (is : Property way) (p : Place) (high : ℕ) (ue : UeId) (from : NodeId) (i : ℕ) (m : Message C) (r : Record) (a : Answered way)
      → is_awaited r.transactions.caller (channel ue.0 from) i ≡ true → AnsweredIs d is (at_of r ue) g p from i a → CuCpIs d g p high r
      → Ends p (answered_by way ue (channel ue.0 from) m r a)
  answered_ends is p high ue from i m r answers_none awaited fits h =
      let c : Record = closed_at way (channel ue.0 from) r in
      let k : CuCpIs d g p high c = closed_is p high (channel ue.0 from) r h in
      ends_of p _ (next_goes p high ue (channel ue.0 from) (with_transactions c (after_failed_setup way m (channel ue.0 from) c.transactions))
      (with_kept p high c (after_failed_setup way m (channel ue.0 from) c.transactions) k (failed_is p high m (channel ue.0 from) c.transactions k.transactions)))
  answered_ends is p high ue from i m r (answers_with None) awaited fits h = ends_of p (drops Unexpected r) (same_place p (drops Unexpected r) (high, (tt, tt), h))
  answered_ends is p high ue from i m r (answers_with (Some what)) awaited fits h = by fits
    where
      on : Record
      on = closed_at way (channel ue.0 from) r

      by : RowIs d p ue what ⊎ RowIs d (take g (channel ue.0 from) i ue.0 p) ue what
          → Ends p (carry_out way ue (closed_at way (channel ue.0 from) r) what then put_next way ue (channel ue.0 from))
      by (inl plain) =
          ends_of p _ (goes_then p (carry_out way ue on what) (put_next way ue (channel ue.0 from))
          (carried p high ue on what plain (closed_is p high (channel ue.0 from) r h)) (λ q j x moves k. next_goes q j ue (channel ue.0 from) x k))
      by (inr taken) =
          ends_taken (channel ue.0 from) i ue.0 p _ (goes_then (take g (channel ue.0 from) i ue.0 p) (carry_out way ue on what) (put_next way ue (channel ue.0 from))
          (carried (take g (channel ue.0 from) i ue.0 p) high ue on what taken (taken_is p high (channel ue.0 from) i ue.0 r awaited h))
          (λ q j x moves k. next_goes q j ue (channel ue.0 from) x k))

  fresh_is : (p : Place) (high : ℕ) (ch : Channel) (i : ℕ) (r : Record) → is_awaited r.transactions.caller ch i ≡ true → CuCpIs d g p high r
      → (b : BearerId) → g ≡ Some (record { channel = ch; instance = i; bearer = b }) → (p ≡ away → ⊥) → ⊥
  fresh_is p high ch i r awaited h b given apart =
      shut_not_awaited r.transactions.caller ch i (subst (HasClosed r.transactions.caller) given (h.transactions.closed apart)) awaited

  reply_ends : (is : Property way) (p : Place) (high : ℕ) (ue : UeId) (from : NodeId) (i : ℕ) (m : Message C) (r : Record)
      → is_awaited r.transactions.caller (channel ue.0 from) i ≡ true → NamesFor is.owners from ue m → IsGiven d is (at_of r ue) g p from i m → CuCpNames is d.gnb r
      → CuCpIs d g p high r → Ends p (reply_received way ue (channel ue.0 from) i m r)
  unfolding reply_received
  reply_ends is p high ue from i m r awaited names given n h =
      answered_ends is p high ue from i m r (answer way (at_of r ue) from i m (terminal_of r ue)) awaited
      (answer_is d is (at_of r ue) g p from i m (terminal_of r ue) n.own names given (fresh_is p high (channel ue.0 from) i r awaited h)
      (terminal_names is r.gnb r ue (subst (λ (x : Gnb). CuCpNames is x r) (sym n.own) n)) (h.contexts ue)) h

  -- ---- requests and transfers

  set_up_goes : (p : Place) (high : ℕ) (from : NodeId) (m : Message C) (r : Record) → NoSwitch m → CuCpIs d g p high r → Goes p (set_up way from m r)
  unfolding replied
  set_up_goes p high from m r none h =
      same_place p (set_up way from m r) (
        high,
        (spelled_put p from m none, tt),
        record {
          transactions = with_callee p high r.transactions (keep r.transactions.callee (channel 0 from) (way.encode m)) h.transactions
              (keep_is r.transactions.callee (channel 0 from) m none h.transactions.kept);
          contexts = h.contexts;
        },
      )

  asked_goes : (p : Place) (high : ℕ) (from : NodeId) (m : Message C) (r : Record) → CuCpIs d g p high r → Goes p (asked_row way from m r)
  asked_goes p high from (f1 (f1s.F1SetupRequest i name)) r h = set_up_goes p high from (f1 (f1s.F1SetupResponse i)) r tt h
  asked_goes p high from (e1 (e1s.E1SetupRequest i name)) r h = set_up_goes p high from (e1 (e1s.E1SetupResponse i)) r tt h
  asked_goes p high from (xn (xns.HandoverRequest ue i epoch bearers sn quota peer du origin)) r h =
      carried p high ue r _ (offer_is d way (at_of r ue) p from peer.up du i bearers sn quota epoch (terminal_of r ue) (h.contexts ue)) h
  asked_goes p high from (xn (xns.SnStatusTransfer ue i statuses)) r h =
      carried p high ue r _ (status_is d way (at_of r ue) p from i statuses (terminal_of r ue) (h.contexts ue)) h
  asked_goes p high from (xn (xns.HandoverCancel ue i)) r h =
      carried p high ue r _ (xn_cancelled_is d way (at_of r ue) p from i (terminal_of r ue) (h.contexts ue)) h
  asked_goes p high from (xn (xns.UeContextRelease ue i)) r h =
      carried p high ue r _ (xn_released_is d way (at_of r ue) p from i (terminal_of r ue) (h.contexts ue)) h
  asked_goes p high from m r h = same_place p (drops Unexpected r) (high, (tt, tt), h)

  -- a request is taken once
  request_goes : (p : Place) (high : ℕ) (r : Record) (c : Channel) (i : ℕ) (f : Record → Answer (Message C) P Record) → CuCpIs d g p high r
      → ((s : Record) → CuCpIs d g p high s → Goes p (f s)) → Goes p (on_request way r r.transactions c i (λ x. f (with_transactions r x)))
  unfolding on_request taken kept_reply kept_at
  request_goes p high r c i f h each = by (verdict r.transactions.callee c i)
    where
      kept_in : (o : Option (Kept (Message C))) → kept_at r.transactions.callee c ≡ o → KeptIs (reply_in o)
      kept_in None is = tt
      kept_in (Some k) is = found channel_cmp (λ (x : Kept (Message C)). KeptIs x.reply) r.transactions.callee c k h.transactions.kept is

      kept_again : (o : Option (Message C)) → KeptIs o → Goes p (answered_again way r c o)
      kept_again None k = same_place p (nothing r) (high, tt, h)
      kept_again (Some m) k = same_place p (answered_again way r c (Some m)) (high, (plain_put d p c.peer m k, tt), h)

      by : (v : Verdict) → Goes p (request_by way r r.transactions c i (λ x. f (with_transactions r x)) v)
      by new =
          each (with_transactions r (record r.transactions { callee = taken r.transactions.callee c i }))
          (with_kept p high r (record r.transactions { callee = taken r.transactions.callee c i }) h
          (with_callee p high r.transactions (taken r.transactions.callee c i) h.transactions
          (each_put channel_cmp (λ (x : Kept (Message C)). KeptIs x.reply) r.transactions.callee c (record { instance = i; reply = None }) h.transactions.kept tt)))
      by again = kept_again (kept_reply r.transactions.callee c) (kept_in (kept_at r.transactions.callee c) refl)
      by stale = same_place p (drops Stale r) (high, (tt, tt), h)

  transferred_goes : (is : Property way) (p : Place) (high : ℕ) (from : NodeId) (m : Message C) (r : Record) → CuCpNames is d.gnb r → CuCpIs d g p high r
      → Goes p (transferred way from m r)
  unfolding token_received
  transferred_goes is p high from (f1 (f1s.UlRrcMessageTransfer ue container)) r n h =
      carried p high ue r _
      (container_is d is (at_of r ue) g p from (terminal_of r ue) (terminal_of r ue).context (way.unwrap container)
      (terminal_names is r.gnb r ue (subst (λ (x : Gnb). CuCpNames is x r) (sym n.own) n)) (h.contexts ue)) h
  transferred_goes is p high from m r n h = same_place p (drops Unexpected r) (high, (tt, tt), h)

  -- a reply has this terminal and instance
  abbrev GivenAs : NodeId → Message C → Kind → Type 0
  GivenAs from m k = OnAnswer (λ u j list. (ue i : ℕ) → k ≡ reply ue i → Granted d.teid g (channel ue from) i list) m

  given_as : (from : NodeId) (m : Message C) → AnswerIs d g from m → GivenAs from m (kind_of m)
  unfolding kind_of
  given_as from (f1 (f1s.UeContextSetupResponse u j list)) h = λ ue i e. same_reply u.0 j ue i list e h
    where
      same_reply : (a b ue i : ℕ) (list : List Tunnel) → reply a b ≡ reply ue i → Granted d.teid g (channel a from) b list → Granted d.teid g (channel ue from) i list
      same_reply a b ue i list e k =
          let one : a ≡ ue = cc in
          let two : b ≡ i = cc in
          subst (λ (n : ℕ). Granted d.teid g (channel n from) i list) one (subst (λ (n : ℕ). Granted d.teid g (channel a from) n list) two k)
  given_as from (f1 (f1s.UeContextModificationResponse u j list)) h = λ ue i e. same_reply u.0 j ue i list e h
    where
      same_reply : (a b ue i : ℕ) (list : List Tunnel) → reply a b ≡ reply ue i → Granted d.teid g (channel a from) b list → Granted d.teid g (channel ue from) i list
      same_reply a b ue i list e k =
          let one : a ≡ ue = cc in
          let two : b ≡ i = cc in
          subst (λ (n : ℕ). Granted d.teid g (channel n from) i list) one (subst (λ (n : ℕ). Granted d.teid g (channel a from) n list) two k)
  given_as from m h = tt

  by_kind_ends : (is : Property way) (p : Place) (high : ℕ) (from : NodeId) (m : Message C) (r : Record) (k : Kind) → NamesFor is.owners from (ue_of k) m
      → (from ≡ du_of_teid d → GivenAs from m k) → CuCpNames is d.gnb r → CuCpIs d g p high r → Ends p (control_by way from m r k)
  unfolding on_reply
  by_kind_ends is p high from m r (request ue i) names given n h =
      ends_of p _ (request_goes p high r (channel ue from) i (λ s. asked_row way from m s) h (λ s k. asked_goes p high from m s k))
  by_kind_ends is p high from m r (reply ue i) names given n h = by (is_awaited r.transactions.caller (channel ue from) i) refl
    where
      by : (b : Bool) → is_awaited r.transactions.caller (channel ue from) i ≡ b
          → Ends p (if b then reply_received way (record { 0 = ue }) (channel ue from) i m r else drops Stale r)
      by true awaited =
          reply_ends is p high (record { 0 = ue }) from i m r awaited names
          (λ here. on_answer _ _ m (λ u j list each. each ue i refl) (given here)) n h
      by false shut = ends_of p (drops Stale r) (same_place p (drops Stale r) (high, (tt, tt), h))
  by_kind_ends is p high from m r (transfer ue) names given n h = ends_of p _ (transferred_goes is p high from m r n h)

  control_ends : (is : Property way) (p : Place) (high : ℕ) (from : NodeId) (m : Message C) (r : Record) → Names is.owners from m
      → (from ≡ du_of_teid d → AnswerIs d g from m) → CuCpNames is d.gnb r → CuCpIs d g p high r → Ends p (control_received way from m r)
  unfolding control_received
  control_ends is p high from m r names given n h = by (shares_interface (CuCp r.gnb) from)
    where
      by : (b : Bool) → Ends p (if b then control_by way from m r (kind_of m) else drops Unexpected r)
      by true = by_kind_ends is p high from m r (kind_of m) names (λ here. given_as from m (given here)) n h
      by false = ends_of p (drops Unexpected r) (same_place p (drops Unexpected r) (high, (tt, tt), h))

  -- ---- a tick

  abbrev DueIs : Place → Due (Message C) → Type 0
  DueIs q (repeats c m) = SwitchIs d q c.peer m
  DueIs q (expires c) = Unit {0}

  due_stays : (p q : Place) (x : Due (Message C)) → Asks p q → DueIs p x → DueIs q x
  due_stays p q (repeats c m) stay h = put_stays d {P = P} p q (control c.peer c.ue m) stay h
  due_stays p q (expires c) stay h = tt

  due_is : (p : Place) (r : Caller (Message C)) → AllByRecursion (λ (e : Channel × Opened (Message C)). RequestIs d p e.0.peer e.1.request) r.opened
      → AllByRecursion (DueIs p) (due r)
  unfolding due
  due_is p r all = by r.opened all
    where
      again_is : (c : Channel) (o : Option (Message C)) → RequestIs d p c.peer o → AllByRecursion (DueIs p) (repeated c o)
      again_is c None h = tt
      again_is c (Some m) h = (h, tt)

      one : (e : Channel × Opened (Message C)) → RequestIs d p e.0.peer e.1.request → (t : Bool) → AllByRecursion (DueIs p) (if t then expires e.0 ∷ [] else repeated e.0 e.1.request)
      one e h true = (tt, tt)
      one e h false = again_is e.0 e.1.request h

      by : (es : List (Channel × Opened (Message C))) → AllByRecursion (λ (e : Channel × Opened (Message C)). RequestIs d p e.0.peer e.1.request) es
          → AllByRecursion (DueIs p) (flat_map due_of es)
      by [] q = tt
      by (e ∷ es) q = all_append (DueIs p) (due_of e) (flat_map due_of es) (one e q.0 (is_last e.1.deadline)) (by es q.1)

  aged_all : (Q : Channel → ℕ → Option (Message C) → Type 0) (es : List (Channel × Opened (Message C)))
      → AllByRecursion (λ (e : Channel × Opened (Message C)). Q e.0 e.1.instance e.1.request) es
      → AllByRecursion (λ (e : Channel × Opened (Message C)). Q e.0 e.1.instance e.1.request) (map aged (filter (λ e. not (is_last e.1.deadline)) es))
  aged_all Q es all =
      all_mapped (λ (e : Channel × Opened (Message C)). Q e.0 e.1.instance e.1.request) (λ (e : Channel × Opened (Message C)). Q e.0 e.1.instance e.1.request) aged
      (λ e q. q) (filter (λ e. not (is_last e.1.deadline)) es)
      (all_filter (λ (e : Channel × Opened (Message C)). Q e.0 e.1.instance e.1.request) (λ e. not (is_last e.1.deadline)) es all)

  ticked_closes : (o : Option Grant) (r : Caller (Message C)) → HasClosed r o → HasClosed (after_tick r) o
  unfolding after_tick
  ticked_closes None r h = tt
  ticked_closes (Some x) r h = (h.0, aged_all (λ c n m. c ≡ x.channel → n ≡ x.instance → ⊥) r.opened h.1)

  ticked_is : (p : Place) (high : ℕ) (x : Transactions (Message C) C) → TransactionsAre d g p high x → TransactionsAre d g p high (record x { caller = after_tick x.caller })
  unfolding after_tick waits_at
  ticked_is p high x h = record {
    opened = aged_all (λ c n m. RequestIs d p c.peer m) x.caller.opened h.opened;
    last = aged_all (λ c n m. n ≤ at channel_cmp 0 x.caller.last c) x.caller.opened h.last;
    waiting = h.waiting;
    kept = h.kept;
    closed = λ apart. ticked_closes g x.caller (h.closed apart);
  }

  expired_is : (p : Place) (r : Record) (ue : UeId) → HeldBy d p ue (terminal_of r ue).context
      → RowIs d p ue (expired_on way (at_of r ue) (terminal_of r ue) (terminal_of r ue).context)
  expired_is p r ue h = by (terminal_of r ue).context
    where
      by : (o : Option CuCpContext) → RowIs d p ue (expired_on way (at_of r ue) (terminal_of r ue) o)
      by None = inl (tt, h)
      by (Some c) = expires_is d way (at_of r ue) p (terminal_of r ue) c

  due_one_goes : (p : Place) (high : ℕ) (r : Record) (x : Due (Message C)) → DueIs p x → CuCpIs d g p high r → Goes p (due_one way r x)
  due_one_goes p high r (repeats c m) is h = same_place p (due_one way r (repeats c m)) (high, (is, tt), h)
  due_one_goes p high r (expires c) is h =
      carried p high (record { 0 = c.ue }) r _ (expired_is p r (record { 0 = c.ue }) (h.contexts (record { 0 = c.ue }))) h

  due_each_goes : (p : Place) (high : ℕ) (xs : List (Due (Message C))) (r : Record) → AllByRecursion (DueIs p) xs → CuCpIs d g p high r → Goes p (due_each way xs r)
  due_each_goes p high [] r all h = same_place p (nothing r) (high, tt, h)
  due_each_goes p high (x ∷ xs) r all h =
      goes_then p (due_one way r x) (due_each way xs) (due_one_goes p high r x all.0 h)
      (λ q i s moves k. due_each_goes q i xs s (all_as (DueIs p) (DueIs q) xs (λ y is. due_stays p q y moves.asks is) all.1) k)

  commanded_is : (p : Place) (r : Record) (ue : UeId) → HeldBy d p ue (terminal_of r ue).context
      → RowIs d p ue (command_on way (at_of r ue) (terminal_of r ue) (terminal_of r ue).context)
  commanded_is p r ue h = by (terminal_of r ue).context h
    where
      in_state : (c : CuCpContext) (state : StateName) (o : Option Attempt) → HeldIn d p ue state o → RowIs d p ue (command_by way (at_of r ue) (terminal_of r ue) c state o)
      in_state c states.Frozen (Some a) k = command_is d way (at_of r ue) p (terminal_of r ue) c a (k refl)
      in_state c states.Commanded (Some a) k = command_is d way (at_of r ue) p (terminal_of r ue) c a (k refl)
      in_state c state o k = inl (tt, h)

      by : (o : Option CuCpContext) → HeldBy d p ue o → RowIs d p ue (command_on way (at_of r ue) (terminal_of r ue) o)
      by None k = inl (tt, h)
      by (Some c) k = in_state c c.state c.attempt k

  command_each_goes : (p : Place) (high : ℕ) (ues : List UeId) (r : Record) → CuCpIs d g p high r → Goes p (command_each way ues r)
  command_each_goes p high [] r h = same_place p (nothing r) (high, tt, h)
  command_each_goes p high (ue ∷ ues) r h =
      goes_then p (carry_out way ue r (command_on way (at_of r ue) (terminal_of r ue) (terminal_of r ue).context)) (command_each way ues)
      (carried p high ue r _ (commanded_is p r ue (h.contexts ue)) h) (λ q i s moves k. command_each_goes q i ues s k)

  tick_goes : (p : Place) (high : ℕ) (r : Record) → CuCpIs d g p high r → Goes p (tick way r)
  unfolding tick
  tick_goes p high r h =
      let on : Record = with_transactions r (record r.transactions { caller = after_tick r.transactions.caller }) in
      goes_then p (due_each way (due r.transactions.caller) on) (λ s. command_each way (ues_of way s) s)
      (due_each_goes p high (due r.transactions.caller) on (due_is p r.transactions.caller h.transactions.opened)
      (with_kept p high r (record r.transactions { caller = after_tick r.transactions.caller }) h (ticked_is p high r.transactions h.transactions)))
      (λ q i s moves k. command_each_goes q i (ues_of way s) s k)

  -- ---- the table

  ordered_goes : (p : Place) (high : ℕ) (order : Order) (r : Record) → CuCpIs d g p high r → Goes p (ordered way order r)
  ordered_goes p high (orders.Attach plan) r h =
      carried p high plan.ue r _ (attach_is d way (at_of r plan.ue) p plan (terminal_of r plan.ue) (h.contexts plan.ue)) h
  ordered_goes p high (orders.Handover plan) r h =
      carried p high plan.ue r _ (handover_is d way (at_of r plan.ue) p plan (terminal_of r plan.ue) (h.contexts plan.ue)) h
  ordered_goes p high (orders.Cancel ue) r h = carried p high ue r _ (cancel_is d way (at_of r ue) p (terminal_of r ue) (h.contexts ue)) h
  ordered_goes p high (orders.Release ue) r h = carried p high ue r _ (release_is d way (at_of r ue) p (terminal_of r ue) (h.contexts ue)) h
  ordered_goes p high order r h = same_place p (drops Unexpected r) (high, (tt, tt), h)

  acts_ends : (is : Property way) (p : Place) (high : ℕ) (r : Record) (input : Input C P) → CuCpNames is d.gnb r → InputNames is input
      → InputIs d (record { grant = g; place = p }) input → CuCpIs d g p high r → Ends p (cu_cp_acts way r input)
  unfolding cu_cp_acts
  acts_ends is p high r (control_input from m) n names given h = control_ends is p high from m r names given n h
  acts_ends is p high r (packet_input teid item) n names given h = ends_of p (drops Unexpected r) (same_place p (drops Unexpected r) (high, (tt, tt), h))
  acts_ends is p high r (radio_input ue bearer dir pdu content) n names given h = ends_of p (drops Unexpected r) (same_place p (drops Unexpected r) (high, (tt, tt), h))
  acts_ends is p high r (confirm_input ue bearer dir pdu content) n names given h = ends_of p (drops Unexpected r) (same_place p (drops Unexpected r) (high, (tt, tt), h))
  acts_ends is p high r (offer_input ue bearer x) n names given h = ends_of p (drops Unexpected r) (same_place p (drops Unexpected r) (high, (tt, tt), h))
  acts_ends is p high r tick_input n names given h = ends_of p _ (tick_goes p high r h)
  acts_ends is p high r (order_input order) n names given h = ends_of p _ (ordered_goes p high order r h)

module _ (d : DownlinkTeid) {C P : Type 0} (way : Way (Message C) C P) (same : (m : Message C) → way.encode m ≡ m) (is : Property way) (s : Story) where
  pub cu_cp_goes : (r : CuCpRecord (Message C) C) (input : Input C P) → CuCpNames is d.gnb r → InputNames is input → CuCpHas d s r → InputIs d s input
      → CuCpGoes d s (cu_cp_acts way r input)
  cu_cp_goes r input n names h given = by (cu_cp_acts way r input) (acts_ends d way same s.grant is s.place h.0 r input n names given h.1)
    where
      by : (a : Answer (Message C) P (CuCpRecord (Message C) C)) → Ends d way same s.grant s.place a → CuCpGoes d s a
      by (gives os q) e = (
        e.0,
        record { granted = λ g k. k; asked_stays = e.1.asks; placed_stays = e.1.places },
        e.1.aways,
        e.2.1,
        (e.2.0, e.2.2),
      )
      by (spent counter) e = tt
