-- Answers whose outputs show what is open then: alone, and one after another.
use Rattle.std.proofs.Common.{◌≡◌, ℕ, Bool, true, false, not, ◌||◌, List, [], ◌∷◌, Option, Some, None, refl, sym, ap, ◌∙◌}
use Rattle.std.specs.Prelude.{if◌then◌else◌}
use Rattle.std.specs.List.{flat_map}
use Rattle.gnb_types.specs.declared.keys.Channel.{Channel}
use Rattle.transaction_defs.specs.Callers.{Begin, begun, running, spent as begins_no_more, begin, is_open, is_awaited, Due, repeats, expires}
use Rattle.transaction_defs.specs.Callees.{Verdict, new, again, stale, verdict, taken, kept_reply}
use Rattle.unit_defs.specs.Ways.{Message, control, Output, Way, Answer, gives, spent, with_outputs, ◌then◌, nothing}
use Rattle.unit_defs.specs.Transactions.{Transactions, Waiting, is_empty, waits_at, with_waiting, begun_as, begin_request, ask, advance_with, advance, replied, answered_again, request_by, on_request, on_reply}
use Rattle.law_tunnels_are_owned.specs.open_tunnels.Open.{open_after, is_open_in, ShowsFrom}
use Rattle.law_tunnels_are_owned.proofs.open_tunnels.Opened.{open_append}

-- ---- nothing is opened or closed

abbrev pub OpensNone : {M P R : Type 0} → Answer M P R → Type 0
OpensNone (gives os r) = (q : ℕ) (x : Bool) → open_after q os x ≡ x
OpensNone (spent k) = Unit {0}

module _ {M C P : Type 0} (way : Way M C P) where
  none_if : {R : Type 0} (t : Bool) (x y : Answer M P R) → OpensNone x → OpensNone y → OpensNone (if t then x else y)
  none_if true x y p q = p
  none_if false x y p q = q

  none_begun : (t : Transactions M C) (c : Channel) (w : Waiting C) (b : Begin M) → OpensNone (begun_as way t c w b)
  none_begun t c w (begun instance after) = λ q x. refl
  none_begun t c w running = λ q x. refl
  none_begun t c w begins_no_more = tt

  none_begin : (t : Transactions M C) (c : Channel) (w : Waiting C) → OpensNone (begin_request way t c w)
  unfolding begin_request
  none_begin t c w = none_begun t c w (begin t.caller c w.deadline)

  pub none_ask : (t : Transactions M C) (c : Channel) (w : Waiting C) → OpensNone (ask way t c w)
  unfolding ask
  none_ask t c w = none_if (is_open t.caller c || not (is_empty (waits_at t c))) _ (begin_request way t c w) (λ q x. refl) (none_begin t c w)

  none_advance_with : (t : Transactions M C) (c : Channel) (ws : List (Waiting C)) → OpensNone (advance_with way t c ws)
  none_advance_with t c [] = λ q x. refl
  none_advance_with t c (w ∷ ws) = none_begin (with_waiting t c ws) c w

  pub none_advance : (t : Transactions M C) (c : Channel) → OpensNone (advance way t c)
  unfolding advance
  none_advance t c = none_if (is_open t.caller c) _ (advance_with way t c (waits_at t c)) (λ q x. refl) (none_advance_with t c (waits_at t c))

  pub none_replied : (t : Transactions M C) (c : Channel) (m : Message C) → OpensNone (replied way t c m)
  unfolding replied
  none_replied t c m = λ q x. refl

  pub none_due : (f : Due M → List (Output M P)) → ((c : Channel) (m : M) → f (repeats c m) ≡ control c.peer c.ue m ∷ []) → ((c : Channel) → f (expires c) ≡ [])
      → (ds : List (Due M)) (q : ℕ) (x : Bool) → open_after q (flat_map f ds) x ≡ x
  none_due f there none [] q x = refl
  none_due f there none (repeats c m ∷ ds) q x =
      open_append q (f (repeats c m)) (flat_map f ds) x ∙ none_due f there none ds q (open_after q (f (repeats c m)) x)
      ∙ ap (λ (os : List (Output M P)). open_after q os x) (there c m)
  none_due f there none (expires c ∷ ds) q x =
      open_append q (f (expires c)) (flat_map f ds) x ∙ none_due f there none ds q (open_after q (f (expires c)) x)
      ∙ ap (λ (os : List (Output M P)). open_after q os x) (none c)

-- ---- what is shown is what is open

module _ {M C P R X : Type 0} (way : Way M C P) (tunnels : R → List (ℕ × X)) where
  abbrev pub Shows : List (ℕ × X) → Answer M P R → Type 0
  Shows ts a = ShowsFrom tunnels ts a

  pub shows_if : (ts : List (ℕ × X)) (t : Bool) (x y : Answer M P R) → Shows ts x → Shows ts y → Shows ts (if t then x else y)
  shows_if ts true x y p q = p
  shows_if ts false x y p q = q

  -- another part of the unit is done first
  pub none_then : {S : Type 0} (ts : List (ℕ × X)) (a : Answer M P S) (f : S → R) → OpensNone a
      → ((s : S) (q : ℕ) → is_open_in (tunnels (f s)) q ≡ is_open_in ts q) → Shows ts (a then (λ s. nothing (f s)))
  none_then ts (gives os s) f none keeps = λ q. keeps s q ∙ sym (open_append q os [] (is_open_in ts q) ∙ none q (is_open_in ts q))
  none_then ts (spent counter) f none keeps = tt

  pub shows_then : (ts : List (ℕ × X)) (a : Answer M P R) (f : R → Answer M P R) → Shows ts a → ((r : R) → Shows (tunnels r) (f r)) → Shows ts (a then f)
  shows_then ts (gives os r) f p h = by (f r) (h r)
    where
      by : (a : Answer M P R) → Shows (tunnels r) a → Shows ts (with_outputs os a)
      by (gives more s) g = λ q. g q ∙ ap (open_after q more) (p q) ∙ sym (open_append q os more (is_open_in ts q))
      by (spent counter) g = tt
  shows_then ts (spent counter) f p h = tt

  -- ---- requests and replies

  pub shows_request : (same : R) (t : Transactions M C) (c : Channel) (instance : ℕ) (row : Transactions M C → Answer M P R)
      → ((u : Transactions M C) → Shows (tunnels same) (row u)) → Shows (tunnels same) (on_request way same t c instance row)
  unfolding on_request
  shows_request same t c instance row each = by (verdict t.callee c instance)
    where
      kept_again : (kept : Option M) → Shows (tunnels same) (answered_again way same c kept)
      kept_again None = λ q. refl
      kept_again (Some m) = λ q. refl

      by : (v : Verdict) → Shows (tunnels same) (request_by way same t c instance row v)
      by new = each (record t { callee = taken t.callee c instance })
      by again = kept_again (kept_reply t.callee c)
      by stale = λ q. refl

  pub shows_reply : (same : R) (t : Transactions M C) (c : Channel) (instance : ℕ) (row : Answer M P R) → Shows (tunnels same) row
      → Shows (tunnels same) (on_reply way same t c instance row)
  unfolding on_reply
  shows_reply same t c instance row p = shows_if (tunnels same) (is_awaited t.caller c instance) row _ p (λ q. refl)
