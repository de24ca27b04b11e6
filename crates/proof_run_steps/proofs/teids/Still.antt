-- Answers that open nothing, and leave the next TEID: alone, after others, and before others.
use Rattle.std.proofs.Common.{◌≡◌, ℕ, Bool, true, false, not, ◌||◌, List, [], ◌∷◌, ◌++◌, Option, Some, None, refl, sym, ap, ◌∙◌, subst}
use Rattle.std.specs.Prelude.{if◌then◌else◌}
use Rattle.std.specs.List.{flat_map}
use Rattle.gnb_types.specs.declared.keys.Channel.{Channel}
use Rattle.transaction_defs.specs.Callers.{Begin, begun, running, spent as begins_no_more, begin, is_open, is_awaited, Due, repeats, expires}
use Rattle.transaction_defs.specs.Callees.{Verdict, new, again, stale, verdict, taken, kept_reply}
use Rattle.unit_defs.specs.Ways.{Message, control, Output, Way, Answer, gives, spent, with_outputs, ◌then◌, nothing}
use Rattle.unit_defs.specs.Transactions.{Transactions, Waiting, is_empty, waits_at, with_waiting, begun_as, begin_request, ask, advance_with, advance, replied, answered_again, request_by, on_request, on_reply}
use Rattle.proof_run_steps.specs.teids.Given.{opened_in, opened_by, GivesNext, GrowsTo, GivesFrom}
use Rattle.proof_run_steps.proofs.teids.Grows.{Fewer, gives_none, grows_less, grows_then}
use Rattle.proof_run_steps.proofs.teids.Bearers.{both, first_none, last_none}

-- ---- nothing is opened

abbrev pub OpensNone : {M P R : Type 0} → Answer M P R → Type 0
OpensNone (gives os r) = opened_by os ≡ []
OpensNone (spent k) = Unit {0}

module _ {M C P : Type 0} (way : Way M C P) where
  none_if : {R : Type 0} (t : Bool) (x y : Answer M P R) → OpensNone x → OpensNone y → OpensNone (if t then x else y)
  none_if true x y p q = p
  none_if false x y p q = q

  none_begun : (t : Transactions M C) (c : Channel) (w : Waiting C) (b : Begin M) → OpensNone (begun_as way t c w b)
  none_begun t c w (begun instance after) = refl
  none_begun t c w running = refl
  none_begun t c w begins_no_more = tt

  none_begin : (t : Transactions M C) (c : Channel) (w : Waiting C) → OpensNone (begin_request way t c w)
  unfolding begin_request
  none_begin t c w = none_begun t c w (begin t.caller c w.deadline)

  pub none_ask : (t : Transactions M C) (c : Channel) (w : Waiting C) → OpensNone (ask way t c w)
  unfolding ask
  none_ask t c w = none_if (is_open t.caller c || not (is_empty (waits_at t c))) _ (begin_request way t c w) refl (none_begin t c w)

  none_advance_with : (t : Transactions M C) (c : Channel) (ws : List (Waiting C)) → OpensNone (advance_with way t c ws)
  none_advance_with t c [] = refl
  none_advance_with t c (w ∷ ws) = none_begin (with_waiting t c ws) c w

  pub none_advance : (t : Transactions M C) (c : Channel) → OpensNone (advance way t c)
  unfolding advance
  none_advance t c = none_if (is_open t.caller c) _ (advance_with way t c (waits_at t c)) refl (none_advance_with t c (waits_at t c))

  pub none_replied : (t : Transactions M C) (c : Channel) (m : Message C) → OpensNone (replied way t c m)
  unfolding replied
  none_replied t c m = refl

  pub none_due : (f : Due M → List (Output M P)) → ((c : Channel) (m : M) → f (repeats c m) ≡ control c.peer c.ue m ∷ []) → ((c : Channel) → f (expires c) ≡ [])
      → (ds : List (Due M)) → opened_by (flat_map f ds) ≡ []
  none_due f there none [] = refl
  none_due f there none (repeats c m ∷ ds) = both opened_in (f (repeats c m)) (flat_map f ds) (ap opened_by (there c m)) (none_due f there none ds)
  none_due f there none (expires c ∷ ds) = both opened_in (f (expires c)) (flat_map f ds) (ap opened_by (none c)) (none_due f there none ds)

-- ---- the unit stands still

module _ {M C P R X : Type 0} (way : Way M C P) (next : R → ℕ) (tunnels : R → List (ℕ × X)) where
  abbrev pub Still : ℕ → List (ℕ × X) → Answer M P R → Type 0
  Still n ts (gives os after) = (opened_by os ≡ []) × (next after ≡ n) × Fewer (tunnels after) ts
  Still n ts (spent counter) = Unit {0}

  abbrev pub From : ℕ → List (ℕ × X) → Answer M P R → Type 0
  From n ts a = GivesFrom next tunnels n ts a

  pub same_tunnels : (ts : List (ℕ × X)) → Fewer ts ts
  same_tunnels ts teid owner e = e

  grows_at : (n m : ℕ) (ts later : List (ℕ × X)) → m ≡ n → Fewer later ts → GrowsTo n ts m later
  grows_at n m ts later is fewer = subst (λ (k : ℕ). GrowsTo n ts k later) (sym is) (grows_less n ts later fewer)

  pub from_still : (n : ℕ) (ts : List (ℕ × X)) (a : Answer M P R) → Still n ts a → From n ts a
  from_still n ts (gives os after) p = (gives_none n (opened_by os) (next after) p.0 p.1, grows_at n (next after) ts (tunnels after) p.1 p.2)
  from_still n ts (spent counter) p = tt

  pub still_if : (n : ℕ) (ts : List (ℕ × X)) (t : Bool) (x y : Answer M P R) → Still n ts x → Still n ts y → Still n ts (if t then x else y)
  still_if n ts true x y p q = p
  still_if n ts false x y p q = q

  pub from_if : (n : ℕ) (ts : List (ℕ × X)) (t : Bool) (x y : Answer M P R) → From n ts x → From n ts y → From n ts (if t then x else y)
  from_if n ts true x y p q = p
  from_if n ts false x y p q = q

  -- another part of the unit is done first
  pub none_then : {S : Type 0} (n : ℕ) (ts : List (ℕ × X)) (a : Answer M P S) (f : S → R) → OpensNone a
      → ((s : S) → (next (f s) ≡ n) × Fewer (tunnels (f s)) ts) → Still n ts (a then (λ s. nothing (f s)))
  none_then n ts (gives os s) f none keeps = (both opened_in os [] none refl, (keeps s).0, (keeps s).1)
  none_then n ts (spent counter) f none keeps = tt

  pub still_then : (n : ℕ) (ts : List (ℕ × X)) (a : Answer M P R) (f : R → Answer M P R) → Still n ts a
      → ((r : R) → Still (next r) (tunnels r) (f r)) → Still n ts (a then f)
  still_then n ts (gives os r) f p q = by (f r) (q r)
    where
      by : (a : Answer M P R) → Still (next r) (tunnels r) a → Still n ts (with_outputs os a)
      by (gives more s) h = (both opened_in os more p.0 h.0, h.1 ∙ p.1, λ teid owner e. p.2 teid owner (h.2 teid owner e))
      by (spent counter) h = tt
  still_then n ts (spent counter) f p q = tt

  pub from_then : (n : ℕ) (ts : List (ℕ × X)) (a : Answer M P R) (f : R → Answer M P R) → From n ts a
      → ((r : R) → Still (next r) (tunnels r) (f r)) → From n ts (a then f)
  from_then n ts (gives os r) f p q = by (f r) (q r)
    where
      by : (a : Answer M P R) → Still (next r) (tunnels r) a → From n ts (with_outputs os a)
      by (gives more s) h = (
        subst (λ (k : ℕ). GivesNext n (opened_by (os ++ more)) k) (sym h.1)
            (subst (λ (l : List ℕ). GivesNext n l (next r)) (sym (last_none opened_in os more h.0)) p.0),
        grows_then n ts (next r) (tunnels r) (next s) (tunnels s) p.1 (grows_at (next r) (next s) (tunnels r) (tunnels s) h.1 h.2),
      )
      by (spent counter) h = tt
  from_then n ts (spent counter) f p q = tt

  pub still_first : (n : ℕ) (ts : List (ℕ × X)) (a : Answer M P R) (f : R → Answer M P R) → Still n ts a
      → ((r : R) → From (next r) (tunnels r) (f r)) → From n ts (a then f)
  still_first n ts (gives os r) f p q = by (f r) (q r)
    where
      by : (a : Answer M P R) → From (next r) (tunnels r) a → From n ts (with_outputs os a)
      by (gives more s) h = (
        subst (λ (k : ℕ). GivesNext k (opened_by (os ++ more)) (next s)) p.1
            (subst (λ (l : List ℕ). GivesNext (next r) l (next s)) (sym (first_none opened_in os more p.0)) h.0),
        grows_then n ts (next r) (tunnels r) (next s) (tunnels s) (grows_at n (next r) ts (tunnels r) p.1 p.2) h.1,
      )
      by (spent counter) h = tt
  still_first n ts (spent counter) f p q = tt

  -- ---- requests and replies

  pub from_request : (same : R) (t : Transactions M C) (c : Channel) (instance : ℕ) (row : Transactions M C → Answer M P R)
      → ((u : Transactions M C) → From (next same) (tunnels same) (row u)) → From (next same) (tunnels same) (on_request way same t c instance row)
  unfolding on_request
  from_request same t c instance row each = by (verdict t.callee c instance)
    where
      kept_again : (kept : Option M) → From (next same) (tunnels same) (answered_again way same c kept)
      kept_again None = from_still (next same) (tunnels same) (answered_again way same c None) (refl, refl, λ teid owner e. e)
      kept_again (Some m) = from_still (next same) (tunnels same) (answered_again way same c (Some m)) (refl, refl, λ teid owner e. e)

      by : (v : Verdict) → From (next same) (tunnels same) (request_by way same t c instance row v)
      by new = each (record t { callee = taken t.callee c instance })
      by again = kept_again (kept_reply t.callee c)
      by stale = from_still (next same) (tunnels same) (request_by way same t c instance row stale) (refl, refl, λ teid owner e. e)

  pub still_reply : (same : R) (t : Transactions M C) (c : Channel) (instance : ℕ) (row : Answer M P R) → Still (next same) (tunnels same) row
      → Still (next same) (tunnels same) (on_reply way same t c instance row)
  unfolding on_reply
  still_reply same t c instance row p = still_if (next same) (tunnels same) (is_awaited t.caller c instance) row _ p (refl, refl, λ teid owner e. e)
