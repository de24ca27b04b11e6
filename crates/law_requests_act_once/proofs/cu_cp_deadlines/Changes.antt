-- What comes of a request that is asked, at once or not, and of the next one: what the initiator keeps on its channel, and the instance
-- that an attempt awaits then.
use Rattle.std.proofs.Common.{◌≡◌, ◌==◌, ℕ, ◌+◌, Bool, true, false, not, ◌||◌, List, [], ◌∷◌, ◌++◌, Option, Some, None, refl, sym, ap, ◌∙◌, subst}
use Rattle.std.specs.Prelude.{if◌then◌else◌}
use Rattle.gnb_types.specs.declared.keys.Channel.{Channel}
use Rattle.gnb_types.specs.Orders.{channel_cmp}
use Rattle.tables.specs.Tables.{at}
use Rattle.transaction_defs.specs.Callers.{Opened, opened_at, spent as begins_no_more, begin, begin_after, begun_with, last_instance, is_open, close}
use Rattle.unit_defs.specs.Ways.{Way, Answer, gives, spent, with_outputs, ◌then◌, nothing}
use Rattle.unit_defs.specs.Transactions.{Waiting, Transactions, Asked, is_empty, waits_at, with_waiting, with_instance, awaited_as, begun_as, begin_request, ask, advance, advance_with, ask_at_once}
use Rattle.law_requests_act_once.specs.channel.Ends.{Asking, asking_at}
use Rattle.law_requests_act_once.specs.channel.Exactly.{IfGives}
use Rattle.law_requests_act_once.proofs.channel.Projections.{Asks, new_opened, begun_asks, waiting_asks, closed_asks, asks_then, asks_nothing}

-- one step after another
pub gives_then : {M P R S : Type 0} (Q : R → Type 0) (T : S → Type 0) (a : Answer M P R) (f : R → Answer M P S) → IfGives Q a
    → ((r : R) → Q r → IfGives T (f r)) → IfGives T (a then f)
gives_then {M} {P} {S = S} Q T (gives os r) f first next = by (f r) (next r first)
  where
    by : (b : Answer M P S) → IfGives T b → IfGives T (with_outputs os b)
    by (gives more s) h = h
    by (spent k) h = tt
gives_then Q T (spent k) f first next = tt

abbrev pub begun_on : {M C : Type 0} → Waiting C → ℕ → M → List (Waiting C) → Asking M C
begun_on w n x ws = record { last = n; opened = Some (new_opened w.deadline n (Some x)); waits = ws }

module _ {M C P : Type 0} (way : Way M C P) where
  pub record Becomes (t : Transactions M C) (c : Channel) (Q : Asking M C → Option ℕ → Type 0) (a : Asked M C) : Type 0 where
    pub asking : Asking M C
    pub asks : Asks t a.transactions c asking
    pub fits : Q asking a.awaited

  abbrev pub Become : Transactions M C → Channel → (Asking M C → Option ℕ → Type 0) → Answer M P (Asked M C) → Type 0
  Become t c Q x = IfGives (λ a. Becomes t c Q a) x

  -- the next instance, and what stands for the message with it
  abbrev pub IsNext : ℕ → Waiting C → ℕ → M → Type 0
  IsNext last w n x = (n ≡ last + 1) × (x ≡ way.encode (with_instance n w.message))

  later : (t u : Transactions M C) (c : Channel) (y : Asking M C) → Asks t u c y → (Q : Asking M C → Option ℕ → Type 0) (x : Answer M P (Asked M C))
      → Become u c Q x → Become t c Q x
  later t u c y first Q (gives os a) b = record { asking = b.asking; asks = asks_then first b.asks; fits = b.fits }
  later t u c y first Q (spent k) b = tt

  module _ (t : Transactions M C) (c : Channel) (Q : Asking M C → Option ℕ → Type 0) where
    begun : (w : Waiting C) → Q (asking_at t c) None → ((n : ℕ) (x : M) → IsNext (asking_at t c).last w n x → Q (begun_on w n x (waits_at t c)) (awaited_as way w.awaited n))
        → Become t c Q (begin_request way t c w)
    unfolding begin_request begin
    begun w same next = by (opened_at t.caller c)
      where
        n : ℕ
        n = at channel_cmp 0 t.caller.last c + 1

        fresh : (b : Bool) → Become t c Q (begun_as way t c w (if b then begins_no_more else begun_with t.caller c w.deadline n))
        fresh true = tt
        fresh false = record {
          asking = begun_on w n (way.encode (with_instance n w.message)) (waits_at t c);
          asks = begun_asks t c w.deadline n (way.encode (with_instance n w.message));
          fits = next n (way.encode (with_instance n w.message)) (refl, refl);
        }

        by : (o : Option (Opened M)) → Become t c Q (begun_as way t c w (begin_after t.caller c w.deadline o (at channel_cmp 0 t.caller.last c)))
        by (Some o) = record { asking = asking_at t c; asks = asks_nothing t c; fits = same }
        by None = fresh (at channel_cmp 0 t.caller.last c == last_instance)

    pub ask_becomes : (w : Waiting C) → Q (asking_at t c) None → Q (record (asking_at t c) { waits = waits_at t c ++ w ∷ [] }) None
        → ((n : ℕ) (x : M) → IsNext (asking_at t c).last w n x → Q (begun_on w n x (waits_at t c)) (awaited_as way w.awaited n)) → Become t c Q (ask way t c w)
    unfolding ask
    ask_becomes w same waits next = by (is_open t.caller c || not (is_empty (waits_at t c)))
      where
        by : (b : Bool) → Become t c Q (if b then nothing (record { transactions = with_waiting t c (waits_at t c ++ w ∷ []); awaited = None }) else begin_request way t c w)
        by true = record { asking = _; asks = waiting_asks t c (waits_at t c ++ w ∷ []); fits = waits }
        by false = begun w same next

  -- where others wait then
  waits_as_begun : (t : Transactions M C) (c : Channel) (Q : Asking M C → Option ℕ → Type 0) (w : Waiting C) (ws : List (Waiting C))
      → Q (record (asking_at t c) { waits = ws }) None → ((n : ℕ) (x : M) → IsNext (asking_at t c).last w n x → Q (begun_on w n x ws) (awaited_as way w.awaited n))
      → Become t c Q (begin_request way (with_waiting t c ws) c w)
  waits_as_begun t c Q w ws same next =
      let a : Asks t (with_waiting t c ws) c (record (asking_at t c) { waits = ws }) = waiting_asks t c ws in
      later t (with_waiting t c ws) c (record (asking_at t c) { waits = ws }) a Q (begin_request way (with_waiting t c ws) c w)
      (begun (with_waiting t c ws) c Q w (subst (λ (y : Asking M C). Q y None) (sym a.here) same)
      (λ n x is. subst (λ (v : List (Waiting C)). Q (begun_on w n x v) (awaited_as way w.awaited n)) (sym (ap (λ (y : Asking M C). y.waits) a.here))
      (next n x (is.0 ∙ ap (λ (y : Asking M C). y.last + 1) a.here, is.1))))

  pub advance_becomes : (t : Transactions M C) (c : Channel) (Q : Asking M C → Option ℕ → Type 0) → Q (asking_at t c) None
      → ((w : Waiting C) (ws : List (Waiting C)) → waits_at t c ≡ w ∷ ws → Q (record (asking_at t c) { waits = ws }) None
      × ((n : ℕ) (x : M) → IsNext (asking_at t c).last w n x → Q (begun_on w n x ws) (awaited_as way w.awaited n)))
      → Become t c Q (advance way t c)
  unfolding advance
  advance_becomes t c Q same next = by (is_open t.caller c)
    where
      first : (vs : List (Waiting C)) → waits_at t c ≡ vs → Become t c Q (advance_with way t c vs)
      first [] is = record { asking = asking_at t c; asks = asks_nothing t c; fits = same }
      first (w ∷ ws) is = waits_as_begun t c Q w ws (next w ws is).0 (next w ws is).1

      by : (b : Bool) → Become t c Q (if b then nothing (record { transactions = t; awaited = None }) else advance_with way t c (waits_at t c))
      by true = record { asking = asking_at t c; asks = asks_nothing t c; fits = same }
      by false = first (waits_at t c) refl

  -- what is open is closed, and what waits is given up
  pub at_once_becomes : (t : Transactions M C) (c : Channel) (Q : Asking M C → Option ℕ → Type 0) (w : Waiting C)
      → Q (record (asking_at t c) { opened = None; waits = [] }) None → ((n : ℕ) (x : M) → IsNext (asking_at t c).last w n x → Q (begun_on w n x []) (awaited_as way w.awaited n))
      → Become t c Q (ask_at_once way t c w)
  unfolding ask_at_once
  at_once_becomes t c Q w same next =
      let shut : Transactions M C = record t { caller = close t.caller c } in
      let a : Asks t shut c (record (asking_at t c) { opened = None }) = closed_asks t c in
      later t shut c (record (asking_at t c) { opened = None }) a Q (begin_request way (with_waiting shut c []) c w)
      (waits_as_begun shut c Q w [] (subst (λ (y : Asking M C). Q (record y { waits = [] }) None) (sym a.here) same)
      (λ n x is. next n x (is.0 ∙ ap (λ (y : Asking M C). y.last + 1) a.here, is.1)))
