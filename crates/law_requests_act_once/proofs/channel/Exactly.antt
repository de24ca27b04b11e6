-- What follows of a channel that is exactly once.
use Rattle.std.proofs.Common.{arith, inl, inr, ◌==◌, ◌≡◌, ◌<◌, ◌≤◌, ◌⊎◌, ℕ, ◌+◌, ◌-◌, Bool, true, false, not, ◌||◌, List, [], ◌∷◌, ◌++◌, Option, Some, None, refl, sym, ap, ◌∙◌, subst, eqb-true}
use Rattle.std.specs.Prelude.{if◌then◌else◌, nat_lt, is_some}
use Rattle.std.specs.List.{AllByRecursion}
use Rattle.std.proofs.lemmas.Bool.{ltb-true}
use Rattle.gnb_types.specs.declared.names.NodeId.{NodeId}
use Rattle.gnb_types.specs.declared.keys.Channel.{Channel}
use Rattle.gnb_types.specs.declared.reasons.DropReason.TheVariants.{Stale}
use Rattle.gnb_types.specs.Orders.{channel_cmp}
use Rattle.tables.specs.Tables.{at}
use Rattle.transaction_defs.specs.Callers.{Opened, spent as begins_no_more, begin, begin_after, begun_with, last_instance, opened_at, is_open, is_awaited, has_instance}
use Rattle.transaction_defs.specs.Callees.{Kept, new, again, stale, verdict, verdict_after, newest, newest_in, kept_at, kept_reply, reply_in}
use Rattle.unit_defs.specs.Ways.{control, dropped, Answer, ◌then◌, nothing, drops}
use Rattle.unit_defs.specs.Transactions.{with_instance, Waiting, Transactions, Asked, is_empty, waits_at, with_waiting, begun_as, begin_request, ask, advance, advance_with, ask_at_once, answered_again, request_by, on_request, on_reply}
use Rattle.law_requests_act_once.specs.channel.Replies.{Talk}
use Rattle.law_requests_act_once.specs.channel.Ends.{same_channel, Asking, newest_number, Act, Ends, Note, asked, told, top, InOrder, Put, Once}
use Rattle.law_requests_act_once.specs.channel.Moves.{asks, asks_at_once, advances, Net, ends_of, asked_by, answered_by, moved}
use Rattle.law_requests_act_once.specs.channel.Exactly.{Descends, BeginsWith, WaitsForOpen, IfGives, IsAnswered, InVain}
use Rattle.law_requests_act_once.proofs.channel.Keys.{channel_told}
use Rattle.law_requests_act_once.proofs.channel.Projections.{Asks, begun_asking, begun_asks, waiting_asks, closed_asks, closed_at, asks_then}
use Rattle.law_requests_act_once.proofs.channel.Kept.{none_of, left_false}

some_is_none : {X : Type 0} {x : X} → Some x ≡ None → ⊥
some_is_none e = absurd cc

module _ {M C P : Type 0} (talk : Talk M C P) where
  -- ---- the acts

  all_below : (B : Note M → Type 0) (acts : List (Act M)) (n : ℕ) → InOrder talk B acts → top talk acts < n → AllByRecursion (λ a. a.instance < n) acts
  all_below B [] n order below = tt
  all_below B (a ∷ acts) n order below = (below, all_below B acts n order.3 (let h : top talk acts < a.instance = order.0 in omega arith))

  pub descends : (B : Note M → Type 0) (acts : List (Act M)) → InOrder talk B acts → Descends acts
  descends B [] order = tt
  descends B (a ∷ acts) order = (all_below B acts a.instance order.3 order.0, descends B acts order.3)

  module _ {s : Ends M C} {B : Note M → Type 0} (k : Once talk s B) where
    -- ---- an answer

    begins : (acts : List (Act M)) (i : ℕ) (x : M) → InOrder talk B acts → top talk acts ≡ i → 0 < i → B (asked i x) → BeginsWith acts i x
    begins [] i x order is low b = absurd (omega arith)
    begins (a ∷ acts) i x order is low b =
        (is, k.one_request i a.message x (subst (λ (j : ℕ). B (asked j a.message)) is order.2) b)

    pub is_answered : (o : Opened M) (y : M) → s.asking.opened ≡ Some o → B (told o.instance y) → IsAnswered talk s B o.instance y
    is_answered o y is b =
        let w = k.opened o is in
        let last : o.instance ≡ s.asking.last = w.0 in
        let v = k.after_taken o.instance y b in
        let u = k.taken in
        let newest : s.answering.newest ≡ o.instance = omega arith in
        record {
          newest_is = newest;
          last_is = sym last;
          kept_is = k.put_is_kept y (subst (λ (j : ℕ). B (told j y)) (sym newest) b);
          request = w.1.0;
          was_put = w.1.2;
          acted = begins s.acts o.instance w.1.0 k.acts (k.newest_act ∙ newest) v.0 w.1.2;
          answers = k.answers o.instance w.1.0 y w.1.2 b;
        }

    -- ---- what is pending

    pub only_cancels : (i : ℕ) (x : M) → B (asked i x) → s.answering.newest + 1 < i → talk.overtakes x ≡ true
    only_cancels i x b past =
        let h : i ≡ i - 1 + 1 = omega arith in
        k.overtakes (i - 1) x (omega arith) (subst (λ (n : ℕ). B (asked n x)) h b)
        (λ y t. let w = k.after_taken (i - 1) y t in absurd (omega arith))

  -- ---- what is given in vain

  module _ (net : Net M C) (n : NodeId) (c : Channel) (k : Once talk (ends_of net (answered_by n c)) (Put talk net.bag (answered_by n c))) where
    abbrev there : Transactions M C
    there = net.nodes n

    abbrev was_put : Note M → Type 0
    was_put = Put talk net.bag (answered_by n c)

    pub in_vain : {R : Type 0} (i : ℕ) (x : M) (same : R) (row : Transactions M C → Answer M P R)
        → was_put (asked i x) → i ≤ newest_number (kept_at there.callee c)
        → InVain talk was_put same c i (on_request talk.way same there c i row)
    unfolding on_request verdict newest kept_reply
    in_vain {R} i x same row put old = by (kept_at there.callee c) refl
      where
        reply_of : (m : Option M) → reply_in (kept_at there.callee c) ≡ m → newest_number (kept_at there.callee c) ≡ i
            → InVain talk was_put same c i (answered_again talk.way same c m)
        reply_of None is at = ([], refl, tt)
        reply_of (Some y) is at =
            (control c.peer c.ue y ∷ [], refl, ((refl, refl, subst (λ (j : ℕ). was_put (told j y)) at (k.kept_was_put y is)), tt))

        compared : (e : Kept M) → newest_number (kept_at there.callee c) ≡ e.instance → (b d : Bool) → nat_lt e.instance i ≡ b → (e.instance == i) ≡ d
            → InVain talk was_put same c i (request_by talk.way same there c i row (if b then new else (if d then again else stale)))
        compared e is true d below equal = let h = ltb-true e.instance i below in absurd (omega arith)
        compared e is false true below equal = reply_of (reply_in (kept_at there.callee c)) refl (is ∙ eqb-true e.instance i equal)
        compared e is false false below equal = (dropped Stale ∷ [], refl, (refl, tt))

        by : (q : Option (Kept M)) → kept_at there.callee c ≡ q
            → InVain talk was_put same c i (request_by talk.way same there c i row (verdict_after (newest_in q) i))
        by None is =
            let h : newest_number (kept_at there.callee c) ≡ 0 = ap newest_number is in
            let w = (k.given i x put).0 in absurd (omega arith)
        by (Some e) is = compared e (ap newest_number is) (nat_lt e.instance i) (e.instance == i) refl refl

  pub awaited_is_answered : (net : Net M C) (n : NodeId) (c : Channel)
      → Once talk (ends_of net (asked_by n c)) (Put talk net.bag (asked_by n c))
      → (i : ℕ) (y : M) → Put talk net.bag (asked_by n c) (told i y) → is_awaited (net.nodes n).caller c i ≡ true
      → IsAnswered talk (ends_of net (asked_by n c)) (Put talk net.bag (asked_by n c)) i y
  unfolding is_awaited
  awaited_is_answered net n c k i y put waits = by (opened_at (net.nodes n).caller c) refl waits
    where
      by : (o : Option (Opened M)) → opened_at (net.nodes n).caller c ≡ o → has_instance o i ≡ true
          → IsAnswered talk (ends_of net (asked_by n c)) (Put talk net.bag (asked_by n c)) i y
      by None is same = absurd cc
      by (Some o) is same =
          let at : o.instance ≡ i = eqb-true o.instance i same in
          subst (λ (j : ℕ). IsAnswered talk (ends_of net (asked_by n c)) (Put talk net.bag (asked_by n c)) j y) at
          (is_answered k o y is (subst (λ (j : ℕ). Put talk net.bag (asked_by n c) (told j y)) (sym at) put))

  pub not_awaited : {R : Type 0} (t : Transactions M C) (c : Channel) (i : ℕ) (same : R) (row : Answer M P R) → is_awaited t.caller c i ≡ false
      → on_reply talk.way same t c i row ≡ drops Stale same
  unfolding on_reply
  not_awaited t c i same row is = ap (λ (b : Bool). if b then row else drops Stale same) is

  -- ---- what waits

  abbrev asking_of : Answer M P (Asked M C) → Answer M P (Transactions M C)
  asking_of a = a then (λ b. nothing b.transactions)

  begin_gives : (Q : Transactions M C → Type 0) (t : Transactions M C) (c : Channel) (w : Waiting C) → opened_at t.caller c ≡ None
      → ((u : Transactions M C) (n : ℕ) (x : M) → Asks t u c (begun_asking t c w.deadline n x) → Q u) → IfGives Q (asking_of (begin_request talk.way t c w))
  unfolding begin begin_request
  begin_gives Q t c w none holds =
      subst (λ (o : Option (Opened M)). IfGives Q (asking_of (begun_as talk.way t c w (begin_after t.caller c w.deadline o (at channel_cmp 0 t.caller.last c)))))
      (sym none) (by (at channel_cmp 0 t.caller.last c == last_instance))
    where
      by : (b : Bool) → IfGives Q (asking_of (begun_as talk.way t c w
          (if b then begins_no_more else begun_with t.caller c w.deadline (at channel_cmp 0 t.caller.last c + 1))))
      by true = tt
      by false =
          holds _ (at channel_cmp 0 t.caller.last c + 1) (talk.way.encode (with_instance (at channel_cmp 0 t.caller.last c + 1) w.message))
          (begun_asks t c w.deadline (at channel_cmp 0 t.caller.last c + 1)
          (talk.way.encode (with_instance (at channel_cmp 0 t.caller.last c + 1) w.message)))

  -- where another end has an open request here, and is the same elsewhere
  opened_waits : {t u : Transactions M C} {c : Channel} {a : Asking M C} {o : Opened M} → Asks t u c a → a.opened ≡ Some o
      → (k : Channel) → WaitsForOpen t k → WaitsForOpen u k
  opened_waits {t} {u} {c} {a} {o} changes is k before = by (same_channel k c) refl
    where
      by : (b : Bool) → same_channel k c ≡ b → WaitsForOpen u k
      by true same =
          let key = channel_told k c same in
          let here : opened_at u.caller c ≡ a.opened = ap (λ (b : Asking M C). b.opened) changes.here in
          λ none. let there : opened_at u.caller c ≡ None = subst (λ (q : Channel). opened_at u.caller q ≡ None) key none in absurd cc
      by false apart =
          let e = changes.apart k apart in
          λ none. ap (λ (b : Asking M C). b.waits) e ∙ before (sym (ap (λ (b : Asking M C). b.opened) e) ∙ none)

  -- where the end here stays open if it was
  opened_still : {t u : Transactions M C} {c : Channel} {a : Asking M C} → Asks t u c a → (a.opened ≡ None → ⊥)
      → (k : Channel) → WaitsForOpen t k → WaitsForOpen u k
  opened_still {t} {u} {c} {a} changes still k before = by (same_channel k c) refl
    where
      by : (b : Bool) → same_channel k c ≡ b → WaitsForOpen u k
      by true same =
          let key = channel_told k c same in
          λ none. absurd (still (sym (ap (λ (b : Asking M C). b.opened) changes.here) ∙ subst (λ (q : Channel). opened_at u.caller q ≡ None) key none))
      by false apart =
          let e = changes.apart k apart in
          λ none. ap (λ (b : Asking M C). b.waits) e ∙ before (sym (ap (λ (b : Asking M C). b.opened) e) ∙ none)

  nonempty : (ws : List (Waiting C)) → not (is_empty ws) ≡ true → ws ≡ [] → ⊥
  nonempty [] e h = absurd cc
  nonempty (w ∷ ws) e h = absurd cc

  some_open : (o : Option (Opened M)) → is_some o ≡ true → o ≡ None → ⊥
  some_open None e h = absurd cc
  some_open (Some o) e h = absurd cc

  either : (a b : Bool) → (a || b) ≡ true → (a ≡ true) ⊎ (b ≡ true)
  either true b e = inl refl
  either false b e = inr e

  pub asks_waits : (t : Transactions M C) (c : Channel) (w : Waiting C) (k : Channel) → ((q : Channel) → WaitsForOpen t q)
      → IfGives (λ u. WaitsForOpen u k) (moved talk t (asks c w))
  unfolding ask is_open
  asks_waits t c w k before = by (is_some (opened_at t.caller c) || not (is_empty (waits_at t c))) refl
    where
      open_here : (is_some (opened_at t.caller c) ≡ true) ⊎ (not (is_empty (waits_at t c)) ≡ true) → opened_at t.caller c ≡ None → ⊥
      open_here (inl e) none = some_open (opened_at t.caller c) e none
      open_here (inr e) none = nonempty (waits_at t c) e (before c none)

      by : (b : Bool) → (is_some (opened_at t.caller c) || not (is_empty (waits_at t c))) ≡ b
          → IfGives (λ u. WaitsForOpen u k) (asking_of
          (if b then nothing (record { transactions = with_waiting t c (waits_at t c ++ w ∷ []); awaited = None }) else begin_request talk.way t c w))
      by true is = opened_still (waiting_asks t c (waits_at t c ++ w ∷ [])) (open_here (either _ _ is)) k (before k)
      by false is =
          begin_gives (λ u. WaitsForOpen u k) t c w (none_of (opened_at t.caller c) (left_false _ _ is))
          (λ u n x changes. opened_waits changes refl k (before k))

  pub at_once_waits : (t : Transactions M C) (c : Channel) (w : Waiting C) (k : Channel) → ((q : Channel) → WaitsForOpen t q)
      → IfGives (λ u. WaitsForOpen u k) (moved talk t (asks_at_once c w))
  unfolding ask_at_once
  at_once_waits t c w k before =
      begin_gives (λ u. WaitsForOpen u k) (with_waiting (closed_at t c) c []) c w
      (ap (λ (a : Asking M C). a.opened) (waiting_asks (closed_at t c) c []).here ∙ ap (λ (a : Asking M C). a.opened) (closed_asks t c).here)
      (λ u n x changes. opened_waits (asks_then (asks_then (closed_asks t c) (waiting_asks (closed_at t c) c [])) changes) refl k (before k))

  -- what waits longest was put, where a request was closed; elsewhere all is as it was
  pub advances_waits : (t : Transactions M C) (c k : Channel) → ((same_channel k c ≡ false) → WaitsForOpen t k)
      → IfGives (λ u. WaitsForOpen u k) (moved talk t (advances c))
  unfolding advance is_open
  advances_waits t c k before = by (is_some (opened_at t.caller c)) refl
    where
      here_or_apart : (opened_at t.caller c ≡ None → waits_at t c ≡ []) → WaitsForOpen t k
      here_or_apart here = go (same_channel k c) refl
        where
          go : (b : Bool) → same_channel k c ≡ b → WaitsForOpen t k
          go true same = subst (λ (q : Channel). WaitsForOpen t q) (sym (channel_told k c same)) here
          go false apart = before apart

      next : opened_at t.caller c ≡ None → (ws : List (Waiting C)) → waits_at t c ≡ ws
          → IfGives (λ u. WaitsForOpen u k) (asking_of (advance_with talk.way t c ws))
      next none [] e = here_or_apart (λ h. e)
      next none (w ∷ ws) e =
          begin_gives (λ u. WaitsForOpen u k) (with_waiting t c ws) c w (ap (λ (a : Asking M C). a.opened) (waiting_asks t c ws).here ∙ none)
          (λ u n x changes. after_next (asks_then (waiting_asks t c ws) changes))
        where
          after_next : {u : Transactions M C} {n : ℕ} {x : M} → Asks t u c (begun_asking (with_waiting t c ws) c w.deadline n x) → WaitsForOpen u k
          after_next {u} changes = go (same_channel k c) refl
            where
              go : (b : Bool) → same_channel k c ≡ b → WaitsForOpen u k
              go true same =
                  let key = channel_told k c same in
                  λ none. absurd (some_is_none (sym (ap (λ (b : Asking M C). b.opened) changes.here)
                  ∙ subst (λ (q : Channel). opened_at u.caller q ≡ None) key none))
              go false apart = opened_waits changes refl k (before apart)

      by : (b : Bool) → is_some (opened_at t.caller c) ≡ b
          → IfGives (λ u. WaitsForOpen u k) (asking_of
          (if b then nothing (record { transactions = t; awaited = None }) else advance_with talk.way t c (waits_at t c)))
      by true is = here_or_apart (λ none. absurd (some_open (opened_at t.caller c) is none))
      by false is = next (none_of (opened_at t.caller c) is) (waits_at t c) refl
