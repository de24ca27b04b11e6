-- Two units that keep the same of a terminal's requests and replies: what a word of requests and replies puts out for the terminal
-- is the same of both, and they keep the same of it then.
use Rattle.std.proofs.Common.{◌≡◌, ℕ, ◌+◌, ◌==◌, Bool, true, false, not, ◌||◌, List, [], ◌∷◌, ◌++◌, Option, Some, None, refl, ap, ◌∙◌}
use Rattle.std.specs.Prelude.{if◌then◌else◌, is_some}
use Rattle.gnb_types.specs.declared.keys.Channel.{Channel}
use Rattle.gnb_types.specs.declared.reasons.DropReason.TheVariants.{Stale}
use Rattle.gnb_types.specs.Orders.{channel_cmp}
use Rattle.gnb_types.proofs.OrderLemmas.{channel_total}
use Rattle.tables.specs.Tables.{find, put, at}
use Rattle.transaction_defs.specs.Callers.{Opened, Caller, last_instance, begin_after, begun_with, begin, spent as begins_no_more, opened_at, is_open, is_awaited, has_instance, keep_request, with_request, close}
use Rattle.transaction_defs.specs.Callees.{Kept, Verdict, new, again, stale, verdict, verdict_after, newest, newest_in, kept_at, kept_reply, reply_in, taken, keep, with_reply, keep_for, is_newest}
use Rattle.unit_defs.specs.Ways.{Message, control, dropped, Way, Answer, gives, nothing, drops}
use Rattle.unit_defs.specs.Transactions.{Transactions, Waiting, Asked, is_empty, waits_at, with_waiting, with_instance, awaited_as, begun_as, begin_request, ask, advance_with, advance, ask_at_once, replied, replied_late, answered_again, request_by, on_request, on_reply}
use Rattle.unit_defs.specs.Messages.{channel}
use Rattle.law_terminals_are_isolated.specs.projections.Projections.{Requests, requests_of}
use Rattle.law_terminals_are_isolated.specs.projections.Steps.{seen}
use Rattle.law_terminals_are_isolated.proofs.projections.Answers.{same_if}
use Rattle.law_terminals_are_isolated.proofs.projections.Tables.{same_put, same_without, same_put_at, same_without_at}

abbrev pub asked_view : {M C : Type 0} → ℕ → Asked M C → Requests M C × Option ℕ
asked_view ue a = (requests_of ue a.transactions, a.awaited)

module _ {M C P : Type 0} (way : Way M C P) where
  abbrev pub EqualStates : ℕ → Transactions M C → Transactions M C → Type 0
  EqualStates ue t u = requests_of ue t ≡ requests_of ue u

  -- ---- what is kept

  abbrev with_caller : Transactions M C → Caller M → Transactions M C
  with_caller t a = record t { caller = a }

  pub equal_closed : (t u : Transactions M C) (c : Channel) → EqualStates c.ue t u
      → EqualStates c.ue (with_caller t (close t.caller c)) (with_caller u (close u.caller c))
  unfolding close
  equal_closed t u c e = λ i. record {
    last = (e i).last;
    opened = λ peer. same_without channel_total t.caller.opened u.caller.opened (channel c.ue peer) c (ap (λ (s : Requests M C). s.opened peer) e) i;
    waiting = (e i).waiting;
    kept = (e i).kept;
  }

  equal_kept : (t u : Transactions M C) (c : Channel) (m : M) (a b : Caller M) → EqualStates c.ue (with_caller t a) (with_caller u b)
      → EqualStates c.ue (with_caller t (keep_request a c m)) (with_caller u (keep_request b c m))
  unfolding keep_request opened_at
  equal_kept t u c m a b e =
      by (find channel_cmp a.opened c)
      ∙ ap (λ (o : Option (Opened M)). requests_of c.ue (with_caller u (with_request b c m o))) (ap (λ (s : Requests M C). s.opened c.peer) e)
    where
      by : (o : Option (Opened M)) → EqualStates c.ue (with_caller t (with_request a c m o)) (with_caller u (with_request b c m o))
      by None = e
      by (Some x) = λ i. record {
        last = (e i).last;
        opened = λ peer. same_put channel_total a.opened b.opened (channel c.ue peer) c (record x { request = Some m }) (ap (λ (s : Requests M C). s.opened peer) e) i;
        waiting = (e i).waiting;
        kept = (e i).kept;
      }

  abbrev new_opened : Option ℕ → ℕ → Opened M
  new_opened deadline n = record { instance = n; deadline = deadline; request = None }

  abbrev begun_caller : Caller M → Channel → Option ℕ → ℕ → Caller M
  begun_caller a c deadline n = record {
    last = put channel_cmp a.last c n;
    opened = put channel_cmp a.opened c (new_opened deadline n);
  }

  equal_begun : (t u : Transactions M C) (c : Channel) (deadline : Option ℕ) (n : ℕ) → EqualStates c.ue t u
      → EqualStates c.ue (with_caller t (begun_caller t.caller c deadline n)) (with_caller u (begun_caller u.caller c deadline n))
  equal_begun t u c deadline n e = λ i. record {
    last = λ peer. same_put_at channel_total t.caller.last u.caller.last (channel c.ue peer) 0 c n (ap (λ (s : Requests M C). s.last peer) e) i;
    opened = λ peer. same_put channel_total t.caller.opened u.caller.opened (channel c.ue peer) c (new_opened deadline n)
        (ap (λ (s : Requests M C). s.opened peer) e) i;
    waiting = (e i).waiting;
    kept = (e i).kept;
  }

  waits_equal : (t u : Transactions M C) (c : Channel) → EqualStates c.ue t u → waits_at t c ≡ waits_at u c
  unfolding waits_at
  waits_equal t u c e = ap (λ (s : Requests M C). s.waiting c.peer) e

  open_equal : (t u : Transactions M C) (c : Channel) → EqualStates c.ue t u → is_open t.caller c ≡ is_open u.caller c
  unfolding is_open opened_at
  open_equal t u c e = ap (λ (s : Requests M C). is_some (s.opened c.peer)) e

  pub equal_waiting : (t u : Transactions M C) (c : Channel) (ws : List (Waiting C)) → EqualStates c.ue t u
      → EqualStates c.ue (with_waiting t c ws) (with_waiting u c ws)
  unfolding with_waiting
  equal_waiting t u c [] e = λ i. record {
    last = (e i).last;
    opened = (e i).opened;
    waiting = λ peer. same_without_at channel_total t.waiting u.waiting (channel c.ue peer) [] c (ap (λ (s : Requests M C). s.waiting peer) e) i;
    kept = (e i).kept;
  }
  equal_waiting t u c (w ∷ ws) e = λ i. record {
    last = (e i).last;
    opened = (e i).opened;
    waiting = λ peer. same_put_at channel_total t.waiting u.waiting (channel c.ue peer) [] c (w ∷ ws) (ap (λ (s : Requests M C). s.waiting peer) e) i;
    kept = (e i).kept;
  }

  equal_callee : (t u : Transactions M C) (c : Channel) (k : Kept M) → EqualStates c.ue t u
      → EqualStates c.ue (record t { callee = put channel_cmp t.callee c k }) (record u { callee = put channel_cmp u.callee c k })
  equal_callee t u c k e = λ i. record {
    last = (e i).last;
    opened = (e i).opened;
    waiting = (e i).waiting;
    kept = λ peer. same_put channel_total t.callee u.callee (channel c.ue peer) c k (ap (λ (s : Requests M C). s.kept peer) e) i;
  }

  pub equal_taken : (t u : Transactions M C) (c : Channel) (instance : ℕ) → EqualStates c.ue t u
      → EqualStates c.ue (record t { callee = taken t.callee c instance }) (record u { callee = taken u.callee c instance })
  unfolding taken
  equal_taken t u c instance e = equal_callee t u c (record { instance = instance; reply = None }) e

  equal_reply : (t u : Transactions M C) (c : Channel) (m : M) → EqualStates c.ue t u
      → EqualStates c.ue (record t { callee = keep t.callee c m }) (record u { callee = keep u.callee c m })
  unfolding keep kept_at
  equal_reply t u c m e =
      by (find channel_cmp t.callee c)
      ∙ ap (λ (o : Option (Kept M)). requests_of c.ue (record u { callee = with_reply u.callee c m o })) (ap (λ (s : Requests M C). s.kept c.peer) e)
    where
      by : (o : Option (Kept M)) → EqualStates c.ue (record t { callee = with_reply t.callee c m o }) (record u { callee = with_reply u.callee c m o })
      by None = e
      by (Some k) = equal_callee t u c (record k { reply = Some m }) e

  newest_equal : (t u : Transactions M C) (c : Channel) → EqualStates c.ue t u → newest t.callee c ≡ newest u.callee c
  unfolding newest kept_at
  newest_equal t u c e = ap (λ (s : Requests M C). newest_in (s.kept c.peer)) e

  -- ---- requests

  abbrev Begins : Transactions M C → Transactions M C → Channel → Answer M P (Asked M C) → Answer M P (Asked M C) → Type 0
  Begins t u c a b = seen (asked_view c.ue) a ≡ seen (asked_view c.ue) b

  none_begun : (t u : Transactions M C) (c : Channel) → EqualStates c.ue t u
      → Begins t u c (nothing (record { transactions = t; awaited = None })) (nothing (record { transactions = u; awaited = None }))
  none_begun t u c e = ap (λ (s : Requests M C). gives [] (s, None)) e

  pub begin_equal : (t u : Transactions M C) (c : Channel) (w : Waiting C) → EqualStates c.ue t u
      → Begins t u c (begin_request way t c w) (begin_request way u c w)
  unfolding begin_request begin opened_at
  begin_equal t u c w e =
      by (find channel_cmp t.caller.opened c) (at channel_cmp 0 t.caller.last c)
      ∙ ap (λ (o : Option (Opened M)). seen (asked_view c.ue) (begun_as way u c w (begin_after u.caller c w.deadline o (at channel_cmp 0 t.caller.last c))))
      (ap (λ (s : Requests M C). s.opened c.peer) e)
      ∙ ap (λ (n : ℕ). seen (asked_view c.ue) (begun_as way u c w (begin_after u.caller c w.deadline (find channel_cmp u.caller.opened c) n)))
      (ap (λ (s : Requests M C). s.last c.peer) e)
    where
      begins : (n : ℕ) (b : Bool) → Begins t u c
          (begun_as way t c w (if b then begins_no_more else begun_with t.caller c w.deadline n))
          (begun_as way u c w (if b then begins_no_more else begun_with u.caller c w.deadline n))
      begins n true = refl
      begins n false =
          ap (λ (s : Requests M C). gives (control c.peer c.ue (way.encode (with_instance n w.message)) ∷ []) (s, awaited_as way w.awaited n))
          (equal_kept t u c (way.encode (with_instance n w.message)) (begun_caller t.caller c w.deadline n) (begun_caller u.caller c w.deadline n)
          (equal_begun t u c w.deadline n e))

      by : (o : Option (Opened M)) (n : ℕ) → Begins t u c
          (begun_as way t c w (begin_after t.caller c w.deadline o n)) (begun_as way u c w (begin_after u.caller c w.deadline o n))
      by (Some x) n = none_begun t u c e
      by None n = begins (n + 1) (n == last_instance)

  pub ask_equal : (t u : Transactions M C) (c : Channel) (w : Waiting C) → EqualStates c.ue t u → Begins t u c (ask way t c w) (ask way u c w)
  unfolding ask
  ask_equal t u c w e =
      same_if (asked_view c.ue) (is_open t.caller c || not (is_empty (waits_at t c))) (is_open u.caller c || not (is_empty (waits_at u c)))
      _ (begin_request way t c w) _ (begin_request way u c w)
      (λ i. open_equal t u c e i || not (is_empty (waits_equal t u c e i)))
      (none_begun _ _ c (equal_waiting t u c (waits_at t c ++ w ∷ []) e
      ∙ ap (λ (ws : List (Waiting C)). requests_of c.ue (with_waiting u c (ws ++ w ∷ []))) (waits_equal t u c e)))
      (begin_equal t u c w e)

  pub advance_equal : (t u : Transactions M C) (c : Channel) → EqualStates c.ue t u → Begins t u c (advance way t c) (advance way u c)
  unfolding advance
  advance_equal t u c e =
      same_if (asked_view c.ue) (is_open t.caller c) (is_open u.caller c)
      _ (advance_with way t c (waits_at t c)) _ (advance_with way u c (waits_at u c))
      (open_equal t u c e) (none_begun t u c e)
      (by (waits_at t c) ∙ ap (λ (ws : List (Waiting C)). seen (asked_view c.ue) (advance_with way u c ws)) (waits_equal t u c e))
    where
      by : (ws : List (Waiting C)) → Begins t u c (advance_with way t c ws) (advance_with way u c ws)
      by [] = none_begun t u c e
      by (w ∷ ws) = begin_equal (with_waiting t c ws) (with_waiting u c ws) c w (equal_waiting t u c ws e)

  pub ask_at_once_equal : (t u : Transactions M C) (c : Channel) (w : Waiting C) → EqualStates c.ue t u
      → Begins t u c (ask_at_once way t c w) (ask_at_once way u c w)
  unfolding ask_at_once
  ask_at_once_equal t u c w e =
      let a : Transactions M C = with_caller t (close t.caller c) in
      let b : Transactions M C = with_caller u (close u.caller c) in
      begin_equal (with_waiting a c []) (with_waiting b c []) c w (equal_waiting a b c [] (equal_closed t u c e))

  -- ---- replies

  pub replied_equal : (t u : Transactions M C) (c : Channel) (m : Message C) → EqualStates c.ue t u
      → seen (requests_of c.ue) (replied way t c m) ≡ seen (requests_of c.ue) (replied way u c m)
  unfolding replied
  replied_equal t u c m e =
      ap (λ (s : Requests M C). gives (control c.peer c.ue (way.encode m) ∷ []) s) (equal_reply t u c (way.encode m) e)

  pub replied_late_equal : (t u : Transactions M C) (c : Channel) (instance : ℕ) (m : Message C) → EqualStates c.ue t u
      → seen (requests_of c.ue) (replied_late way t c instance m) ≡ seen (requests_of c.ue) (replied_late way u c instance m)
  unfolding replied_late keep_for
  replied_late_equal t u c instance m e =
      ap (λ (s : Requests M C). gives (control c.peer c.ue (way.encode m) ∷ []) s)
      (by (is_newest (newest t.callee c) instance)
      ∙ ap (λ (n : Option ℕ). requests_of c.ue (record u { callee = if is_newest n instance then keep u.callee c (way.encode m) else u.callee }))
      (newest_equal t u c e))
    where
      by : (b : Bool) → EqualStates c.ue
          (record t { callee = if b then keep t.callee c (way.encode m) else t.callee })
          (record u { callee = if b then keep u.callee c (way.encode m) else u.callee })
      by true = equal_reply t u c (way.encode m) e
      by false = e

  -- ---- what comes: a request, and a reply

  module _ {R S : Type 0} (view : R → S) (r q : R) (t u : Transactions M C) (c : Channel) (instance : ℕ) (same : view r ≡ view q) (e : EqualStates c.ue t u) where
    pub on_request_equal : (row other : Transactions M C → Answer M P R)
        → ((x y : Transactions M C) → EqualStates c.ue x y → seen view (row x) ≡ seen view (other y))
        → seen view (on_request way r t c instance row) ≡ seen view (on_request way q u c instance other)
    unfolding on_request verdict kept_reply kept_at
    on_request_equal row other rows =
        by (verdict_after (newest t.callee c) instance)
        ∙ ap (λ (n : Option ℕ). seen view (request_by way q u c instance other (verdict_after n instance))) (newest_equal t u c e)
      where
        kept : (m : Option M) → seen view (answered_again way r c m) ≡ seen view (answered_again way q c m)
        kept None = ap (λ (s : S). gives [] s) same
        kept (Some m) = ap (λ (s : S). gives (control c.peer c.ue m ∷ []) s) same

        by : (v : Verdict) → seen view (request_by way r t c instance row v) ≡ seen view (request_by way q u c instance other v)
        by new = rows _ _ (equal_taken t u c instance e)
        by again =
            kept (reply_in (find channel_cmp t.callee c))
            ∙ ap (λ (o : Option (Kept M)). seen view (answered_again way q c (reply_in o))) (ap (λ (s : Requests M C). s.kept c.peer) e)
        by stale = ap (λ (s : S). gives (dropped Stale ∷ []) s) same

    pub on_reply_equal : (row other : Answer M P R) → seen view row ≡ seen view other
        → seen view (on_reply way r t c instance row) ≡ seen view (on_reply way q u c instance other)
    unfolding on_reply is_awaited opened_at
    on_reply_equal row other rows =
        same_if view (is_awaited t.caller c instance) (is_awaited u.caller c instance) row (drops Stale r) other (drops Stale q)
        (ap (λ (s : Requests M C). has_instance (s.opened c.peer) instance) e) rows
        (ap (λ (s : S). gives (dropped Stale ∷ []) s) same)
