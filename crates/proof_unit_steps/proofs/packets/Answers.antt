-- Answers whose outputs have the property: by cases, one after another, and where a request or a reply is taken; control messages have it.
use Rattle.std.proofs.Common.{◌≡◌, ℕ, Bool, true, false, cond, not, ◌||◌, List, [], ◌∷◌, ◌++◌, map, Option, Some, None, subst}
use Rattle.std.specs.Prelude.{if◌then◌else◌}
use Rattle.std.specs.declared.cmp.Ordering.{Ordering}
use Rattle.std.specs.declared.cmp.Ordering.TheVariants.{Less, Equal, Greater}
use Rattle.std.specs.Ordering.{match_ordering}
use Rattle.std.specs.Map.{lookup}
use Rattle.std.specs.BTreeMap.{is_at, insert_entry}
use Rattle.std.specs.List.{AllByRecursion, flat_map}
use Rattle.gnb_types.specs.declared.keys.Channel.{Channel}
use Rattle.gnb_types.specs.declared.reasons.DropReason.TheVariants.{Stale}
use Rattle.tables.specs.Tables.{find, put}
use Rattle.transaction_defs.specs.Callers.{is_open, is_awaited, close, Begin, begun, running, spent as begins_no_more, begin}
use Rattle.transaction_defs.specs.Callees.{Verdict, new, again, stale, verdict, taken as taken_in, kept_reply}
use Rattle.unit_defs.specs.Ways.{Message, Way, Answer, gives, spent, with_outputs, ◌then◌, nothing, drops}
use Rattle.unit_defs.specs.Transactions.{Transactions, Waiting, Asked, is_empty, waits_at, with_waiting, begun_as, begin_request, ask, advance_with, advance, ask_at_once, replied, replied_late, answered_again, request_by, on_request, on_reply}
use Rattle.intervals.proofs.Intervals.{all_append}
use Rattle.proof_unit_steps.specs.packets.Packets.{Property, OutputHas, AnswerHas, OutputsHave}

-- ---- lists and tables

pub all_map : {X Y : Type 0} (Q : Y → Type 0) (f : X → Y) → ((x : X) → Q (f x)) → (xs : List X) → AllByRecursion Q (map f xs)
all_map Q f each [] = tt
all_map Q f each (x ∷ xs) = (each x, all_map Q f each xs)

pub all_flat : {X Y : Type 0} (Q : Y → Type 0) (f : X → List Y) → ((x : X) → AllByRecursion Q (f x)) → (xs : List X) → AllByRecursion Q (flat_map f xs)
all_flat Q f each [] = tt
all_flat Q f each (x ∷ xs) = all_append Q (f x) (flat_map f xs) (each x) (all_flat Q f each xs)

module _ {K X : Type 0} (R : K → K → Ordering) (Q : X → Type 0) where
  abbrev Each : List (K × X) → Type 0
  Each es = AllByRecursion (λ (e : K × X). Q e.1) es

  pub found : (es : List (K × X)) (k : K) (x : X) → Each es → find R es k ≡ Some x → Q x
  unfolding find
  found [] k x all is = absurd cc
  found (e ∷ es) k x all is = by (found es k x all.1) (is_at (R k) e.0) is
    where
      by : (find R es k ≡ Some x → Q x) → (t : Bool) → cond t (Some e.1) (lookup (is_at (R k)) es) ≡ Some x → Q x
      by later true h = let same : e.1 ≡ x = cc in subst Q same all.0
      by later false h = later h

  pub each_put : (es : List (K × X)) (k : K) (x : X) → Each es → Q x → Each (put R es k x)
  unfolding put
  each_put [] k x all p = (p, tt)
  each_put (e ∷ es) k x all p = by (R k e.0) (each_put es k x all.1 p)
    where
      by : (r : Ordering) → Each (insert_entry R es k x) → Each (match_ordering r ((k, x) ∷ e ∷ es) ((e.0, x) ∷ es) (e ∷ insert_entry R es k x))
      by Less rest = (p, all)
      by Equal rest = (p, all.1)
      by Greater rest = (all.0, rest)

-- ---- answers

module _ {M C P : Type 0} {way : Way M C P} (has : Property way) where
  pub either : {R : Type 0} (Q : R → Type 0) (t : Bool) (x y : Answer M P R) → AnswerHas has Q x → AnswerHas has Q y → AnswerHas has Q (if t then x else y)
  either Q true x y p q = p
  either Q false x y p q = q

  pub after : {R S : Type 0} (Q : R → Type 0) (T : S → Type 0) (a : Answer M P R) (f : R → Answer M P S) → AnswerHas has Q a
      → ((r : R) → Q r → AnswerHas has T (f r)) → AnswerHas has T (a then f)
  after {S = S} Q T (gives os r) f p q = by (f r) (q r p.0)
    where
      by : (b : Answer M P S) → AnswerHas has T b → AnswerHas has T (with_outputs os b)
      by (gives more s) h = (h.0, all_append (OutputHas has) os more p.1 h.1)
      by (spent k) h = tt
  after Q T (spent k) f p q = tt

  pub after_any : {R S : Type 0} (T : S → Type 0) (a : Answer M P R) (f : R → Answer M P S) → OutputsHave has a → ((r : R) → AnswerHas has T (f r))
      → AnswerHas has T (a then f)
  after_any {R = R} T a f p q = after (λ (r : R). Unit {0}) T a f p (λ r h. q r)

  -- ---- control messages

  begun_has : (t : Transactions M C) (c : Channel) (w : Waiting C) (b : Begin M) → OutputsHave has (begun_as way t c w b)
  begun_has t c w (begun instance after) = (tt, (tt, tt))
  begun_has t c w running = (tt, tt)
  begun_has t c w begins_no_more = tt

  request_has : (t : Transactions M C) (c : Channel) (w : Waiting C) → OutputsHave has (begin_request way t c w)
  unfolding begin_request
  request_has t c w = begun_has t c w (begin t.caller c w.deadline)

  pub ask_has : (t : Transactions M C) (c : Channel) (w : Waiting C) → OutputsHave has (ask way t c w)
  unfolding ask
  ask_has t c w =
      either (λ (a : Asked M C). Unit {0}) (is_open t.caller c || not (is_empty (waits_at t c)))
      (nothing (record { transactions = with_waiting t c (waits_at t c ++ w ∷ []); awaited = None })) (begin_request way t c w) (tt, tt) (request_has t c w)

  pub advance_has : (t : Transactions M C) (c : Channel) → OutputsHave has (advance way t c)
  unfolding advance
  advance_has t c =
      either (λ (a : Asked M C). Unit {0}) (is_open t.caller c) (nothing (record { transactions = t; awaited = None })) (advance_with way t c (waits_at t c)) (tt, tt)
      (by (waits_at t c))
    where
      by : (ws : List (Waiting C)) → OutputsHave has (advance_with way t c ws)
      by [] = (tt, tt)
      by (w ∷ ws) = request_has (with_waiting t c ws) c w

  pub at_once_has : (t : Transactions M C) (c : Channel) (w : Waiting C) → OutputsHave has (ask_at_once way t c w)
  unfolding ask_at_once
  at_once_has t c w = request_has (with_waiting (record t { caller = close t.caller c }) c []) c w

  pub replied_has : (t : Transactions M C) (c : Channel) (m : Message C) → OutputsHave has (replied way t c m)
  unfolding replied
  replied_has t c m = (tt, (tt, tt))

  pub late_has : (t : Transactions M C) (c : Channel) (instance : ℕ) (m : Message C) → OutputsHave has (replied_late way t c instance m)
  unfolding replied_late
  late_has t c instance m = (tt, (tt, tt))

  pub on_request_has : {R : Type 0} (Q : R → Type 0) (same : R) (t : Transactions M C) (c : Channel) (instance : ℕ) (row : Transactions M C → Answer M P R) → Q same
      → ((u : Transactions M C) → AnswerHas has Q (row u)) → AnswerHas has Q (on_request way same t c instance row)
  unfolding on_request
  on_request_has Q same t c instance row is each = by (verdict t.callee c instance)
    where
      kept_again : (kept : Option M) → AnswerHas has Q (answered_again way same c kept)
      kept_again None = (is, tt)
      kept_again (Some m) = (is, (tt, tt))

      by : (v : Verdict) → AnswerHas has Q (request_by way same t c instance row v)
      by new = each (record t { callee = taken_in t.callee c instance })
      by again = kept_again (kept_reply t.callee c)
      by stale = (is, (tt, tt))

  pub on_reply_has : {R : Type 0} (Q : R → Type 0) (same : R) (t : Transactions M C) (c : Channel) (instance : ℕ) (row : Answer M P R) → Q same → AnswerHas has Q row
      → AnswerHas has Q (on_reply way same t c instance row)
  unfolding on_reply
  on_reply_has Q same t c instance row is p = either Q (is_awaited t.caller c instance) row (drops Stale same) p (is, (tt, tt))
