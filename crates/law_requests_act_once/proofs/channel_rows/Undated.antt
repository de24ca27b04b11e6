-- Requests without a deadline stay so: what a DU and a CU-UP ask has none.
use Rattle.std.proofs.Common.{◌≡◌, ◌==◌, ℕ, ◌+◌, Bool, true, false, not, ◌||◌, List, [], ◌∷◌, ◌++◌, Option, Some, None, refl, sym, ap, ◌∙◌, subst}
use Rattle.std.specs.Prelude.{if◌then◌else◌}
use Rattle.std.specs.List.{AllByRecursion}
use Rattle.gnb_types.specs.declared.names.NodeId.{NodeId}
use Rattle.gnb_types.specs.declared.keys.Channel.{Channel}
use Rattle.gnb_types.specs.Orders.{channel_cmp}
use Rattle.gnb_types.specs.declared.reasons.DropReason.TheVariants.{Stale}
use Rattle.tables.specs.Tables.{at, IsSorted}
use Rattle.transaction_defs.specs.Callers.{Opened, opened_at, spent as begins_no_more, begin, begin_after, begun_with, last_instance, is_open, is_awaited, is_last, one_less, after_tick, close}
use Rattle.transaction_defs.specs.Callees.{Verdict, new, again, stale, verdict, kept_reply, taken}
use Rattle.unit_defs.specs.Ways.{Way, Answer, gives, spent, ◌then◌, nothing, drops}
use Rattle.unit_defs.specs.Transactions.{Waiting, Transactions, Asked, is_empty, waits_at, with_waiting, with_instance, begun_as, begin_request, ask, advance, advance_with, request_by, on_request, on_reply, answered_again}
use Rattle.law_requests_act_once.specs.channel.Replies.{Talk}
use Rattle.law_requests_act_once.specs.channel.Moves.{Net}
use Rattle.law_requests_act_once.proofs.channel.Nets.{Good}
use Rattle.law_requests_act_once.specs.channel.Ends.{same_channel, Asking, asking_at}
use Rattle.law_requests_act_once.specs.channel.Exactly.{IfGives}
use Rattle.law_requests_act_once.proofs.channel.Keys.{channel_told}
use Rattle.law_requests_act_once.proofs.channel.Projections.{Asks, begun_asks, waiting_asks, closed_asks}
use Rattle.law_requests_act_once.proofs.channel.Ticks.{aged_in, opened_after_tick}
use Rattle.law_requests_act_once.specs.channel_rows.IsPlayed.{HasNoDeadline, IsUndated, AreUndated, NoneDue}

all_push : {C : Type 0} (ws : List (Waiting C)) (w : Waiting C) → AllByRecursion HasNoDeadline ws → HasNoDeadline w → AllByRecursion HasNoDeadline (ws ++ w ∷ [])
all_push [] w all here = (here, tt)
all_push (v ∷ vs) w all here = (all.0, all_push vs w all.1 here)

module _ {M C : Type 0} where
  -- what is asked changes at one key
  undated_by : {t u : Transactions M C} {c : Channel} {a : Asking M C} → Asks t u c a → IsUndated a → AreUndated t → AreUndated u
  undated_by {t} {u} {c} {a} asks here all k = by (same_channel k c) refl
    where
      by : (b : Bool) → same_channel k c ≡ b → IsUndated (asking_at u k)
      by true e = subst (λ (q : Channel). IsUndated (asking_at u q)) (sym (channel_told k c e)) (subst IsUndated (sym asks.here) here)
      by false e = subst IsUndated (sym (asks.apart k e)) (all k)

  pub nothing_due : (t : Transactions M C) → AreUndated t → NoneDue t
  nothing_due t all c o is = ap is_last ((all c).0 o is)

  closed_undated : (t : Transactions M C) (c : Channel) → AreUndated t → AreUndated (record t { caller = close t.caller c })
  closed_undated t c all = undated_by (closed_asks t c) ((λ o is. absurd cc), (all c).1) all

  pub ticked_undated : (t : Transactions M C) → IsSorted channel_cmp t.caller.opened → AreUndated t → AreUndated (record t { caller = after_tick t.caller })
  unfolding waits_at
  ticked_undated t sorted all c = (λ o is. by (opened_at t.caller c) (all c).0 o (sym (opened_after_tick t.caller c sorted) ∙ is), (all c).1)
    where
      aged : (o : Opened M) → o.deadline ≡ None → (last : Bool) → (q : Opened M)
          → (if last then None else Some (record o { deadline = one_less o.deadline })) ≡ Some q → q.deadline ≡ None
      aged o none true q e = absurd cc
      aged o none false q e = let same : record o { deadline = one_less o.deadline } ≡ q = cc in ap (λ (x : Opened M). x.deadline) (sym same) ∙ ap one_less none

      by : (o : Option (Opened M)) → ((x : Opened M) → o ≡ Some x → x.deadline ≡ None) → (q : Opened M) → aged_in o ≡ Some q → q.deadline ≡ None
      by None none q e = absurd cc
      by (Some o) none q e = aged o (none o refl) (is_last o.deadline) q e

module _ {M C P : Type 0} (way : Way M C P) where
  -- ---- requests are asked

  abbrev Keeps : Answer M P (Asked M C) → Type 0
  Keeps a = IfGives (λ x. AreUndated x.transactions) a

  begun_undated : (t : Transactions M C) (c : Channel) (w : Waiting C) → HasNoDeadline w → AreUndated t → Keeps (begin_request way t c w)
  unfolding begin begin_request
  begun_undated t c w none all = by (opened_at t.caller c)
    where
      fresh : (b : Bool) → Keeps (begun_as way t c w (if b then begins_no_more else begun_with t.caller c w.deadline (at channel_cmp 0 t.caller.last c + 1)))
      fresh true = tt
      fresh false =
          undated_by (begun_asks t c w.deadline (at channel_cmp 0 t.caller.last c + 1) (way.encode (with_instance (at channel_cmp 0 t.caller.last c + 1) w.message))) (
            λ o is. let same : record { instance = at channel_cmp 0 t.caller.last c + 1; deadline = w.deadline; request = Some (way.encode (with_instance (at channel_cmp 0 t.caller.last c + 1) w.message)) } ≡ o = cc in
                ap (λ (x : Opened M). x.deadline) (sym same) ∙ none,
            (all c).1,
          ) all

      by : (o : Option (Opened M)) → Keeps (begun_as way t c w (begin_after t.caller c w.deadline o (at channel_cmp 0 t.caller.last c)))
      by (Some o) = all
      by None = fresh (at channel_cmp 0 t.caller.last c == last_instance)

  pub ask_undated : (t : Transactions M C) (c : Channel) (w : Waiting C) → HasNoDeadline w → AreUndated t → Keeps (ask way t c w)
  unfolding ask
  ask_undated t c w none all = by (is_open t.caller c || not (is_empty (waits_at t c)))
    where
      by : (b : Bool) → Keeps (if b then nothing (record { transactions = with_waiting t c (waits_at t c ++ w ∷ []); awaited = None }) else begin_request way t c w)
      by true = undated_by (waiting_asks t c (waits_at t c ++ w ∷ [])) ((all c).0, all_push (waits_at t c) w (all c).1 none) all
      by false = begun_undated t c w none all

  advance_undated : (t : Transactions M C) (c : Channel) → AreUndated t → Keeps (advance way t c)
  unfolding advance
  advance_undated t c all = by (is_open t.caller c)
    where
      next : (ws : List (Waiting C)) → AllByRecursion HasNoDeadline ws → Keeps (advance_with way t c ws)
      next [] none = all
      next (w ∷ ws) none = begun_undated (with_waiting t c ws) c w none.0 (undated_by (waiting_asks t c ws) ((all c).0, none.1) all)

      by : (b : Bool) → Keeps (if b then nothing (record { transactions = t; awaited = None }) else advance_with way t c (waits_at t c))
      by true = all
      by false = next (waits_at t c) (all c).1

  -- ---- what a unit keeps then

  module _ {R : Type 0} (kept : R → Transactions M C) where
    abbrev pub After : Answer M P R → Type 0
    After a = IfGives (λ r. AreUndated (kept r)) a

    pub asked_then : (x : Answer M P (Asked M C)) (f : Asked M C → R) → ((a : Asked M C) → kept (f a) ≡ a.transactions) → Keeps x
        → After (x then (λ a. nothing (f a)))
    asked_then (gives os a) f keeps all = subst AreUndated (sym (keeps a)) all
    asked_then (spent k) f keeps all = tt

    pub reply_undated : (same : R) (t : Transactions M C) (c : Channel) (i : ℕ) (f : Asked M C → R) → ((a : Asked M C) → kept (f a) ≡ a.transactions)
        → AreUndated t → AreUndated (kept same) → After (on_reply way same t c i (advance way (record t { caller = close t.caller c }) c then (λ a. nothing (f a))))
    unfolding on_reply
    reply_undated same t c i f keeps all whole = by (is_awaited t.caller c i)
      where
        by : (b : Bool) → After (if b then advance way (record t { caller = close t.caller c }) c then (λ a. nothing (f a)) else drops Stale same)
        by true = asked_then (advance way (record t { caller = close t.caller c }) c) f keeps
            (advance_undated (record t { caller = close t.caller c }) c (closed_undated t c all))
        by false = whole

    pub request_undated : (same : R) (t : Transactions M C) (c : Channel) (i : ℕ) (row : Transactions M C → Answer M P R) → AreUndated (kept same)
        → After (row (record t { callee = taken t.callee c i })) → After (on_request way same t c i row)
    unfolding on_request
    request_undated same t c i row whole made = by (verdict t.callee c i)
      where
        kept_again : (y : Option M) → After (answered_again way same c y)
        kept_again None = whole
        kept_again (Some y) = whole

        by : (v : Verdict) → After (request_by way same t c i row v)
        by new = made
        by again = kept_again (kept_reply t.callee c)
        by stale = whole

-- what a node keeps is in order
pub sorted_of : {M C P : Type 0} (talk : Talk M C P) {net : Net M C} → Good talk net → (n : NodeId) (t : Transactions M C) → net.nodes n ≡ t
    → IsSorted channel_cmp t.caller.opened
sorted_of {M} {C} talk good n t at = subst (λ (u : Transactions M C). IsSorted channel_cmp u.caller.opened) at (good.sorted n)
