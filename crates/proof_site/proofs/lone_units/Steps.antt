-- Steps that are made: by cases, one after another, and where a request or a reply is taken.
use Rattle.std.proofs.Common.{◌≡◌, ℕ, Bool, true, false, not, ◌||◌, List, [], ◌∷◌, ◌++◌, map, Option, Some, None, refl}
use Rattle.std.specs.Prelude.{if◌then◌else◌}
use Rattle.std.specs.List.{AllByRecursion, flat_map}
use Rattle.gnb_types.specs.declared.keys.Channel.{Channel}
use Rattle.gnb_types.specs.declared.reasons.DropReason.TheVariants.{Stale}
use Rattle.transaction_defs.specs.Callers.{is_open, is_awaited, close, Begin, begun, running, spent as begins_no_more, begin, Due, repeats, expires}
use Rattle.transaction_defs.specs.Callees.{Verdict, new, again, stale, verdict, taken as taken_in, kept_reply}
use Rattle.unit_defs.specs.Ways.{Message, Way, Output, held, no, Answer, gives, spent, with_outputs, ◌then◌, nothing, drops}
use Rattle.unit_defs.specs.Transactions.{Transactions, Waiting, is_empty, waits_at, with_waiting, begun_as, begin_request, ask, advance_with, advance, ask_at_once, replied, replied_late, answered_again, request_by, on_request, on_reply}
use Rattle.proof_site.specs.lone_units.Lone.{IsMade, Makes, StaysWhereLone, MakesTo, EndsIn, StaysIn}

pub all_append : {X : Type 0} (Q : X → Type 0) (xs ys : List X) → AllByRecursion Q xs → AllByRecursion Q ys → AllByRecursion Q (xs ++ ys)
all_append Q [] ys h k = k
all_append Q (x ∷ xs) ys h k = (h.0, all_append Q xs ys h.1 k)

pub all_map : {X Y : Type 0} (Q : Y → Type 0) (f : X → Y) → ((x : X) → Q (f x)) → (xs : List X) → AllByRecursion Q (map f xs)
all_map Q f each [] = tt
all_map Q f each (x ∷ xs) = (each x, all_map Q f each xs)

pub all_flat : {X Y : Type 0} (Q : Y → Type 0) (f : X → List Y) → ((x : X) → AllByRecursion Q (f x)) → (xs : List X) → AllByRecursion Q (flat_map f xs)
all_flat Q f each [] = tt
all_flat Q f each (x ∷ xs) = all_append Q (f x) (flat_map f xs) (each x) (all_flat Q f each xs)

module _ {M P R : Type 0} where
  pub either : (t : Bool) (x y : Answer M P R) → Makes x → Makes y → Makes (if t then x else y)
  either true x y p q = p
  either false x y p q = q

  pub after : {S : Type 0} (a : Answer M P R) (f : R → Answer M P S) → Makes a → ((r : R) → Makes (f r)) → Makes (a then f)
  after {S = S} (gives os r) f p q = by (f r) (q r)
    where
      by : (b : Answer M P S) → Makes b → Makes (with_outputs os b)
      by (gives more s) h = all_append IsMade os more p h
      by (spent k) h = tt
  after (spent k) f p q = tt

  -- a step that is made has no output of that kind
  pub made_stays : (r : R) (a : Answer M P R) → Makes a → StaysWhereLone r a
  made_stays r (gives (held reason ∷ []) after) p = absurd p.0
  made_stays r (gives (no reason ∷ []) after) p = absurd p.0
  made_stays r answer p = tt

  pub stays_either : (r : R) (t : Bool) (x y : Answer M P R) → StaysWhereLone r x → StaysWhereLone r y → StaysWhereLone r (if t then x else y)
  stays_either r true x y p q = p
  stays_either r false x y p q = q

-- ---- requests and replies

module _ {M C P : Type 0} (way : Way M C P) where
  begun_made : (t : Transactions M C) (c : Channel) (w : Waiting C) (b : Begin M) → Makes (begun_as way t c w b)
  begun_made t c w (begun instance after) = (tt, tt)
  begun_made t c w running = tt
  begun_made t c w begins_no_more = tt

  request_made : (t : Transactions M C) (c : Channel) (w : Waiting C) → Makes (begin_request way t c w)
  unfolding begin_request
  request_made t c w = begun_made t c w (begin t.caller c w.deadline)

  pub ask_made : (t : Transactions M C) (c : Channel) (w : Waiting C) → Makes (ask way t c w)
  unfolding ask
  ask_made t c w =
      either (is_open t.caller c || not (is_empty (waits_at t c)))
      (nothing (record { transactions = with_waiting t c (waits_at t c ++ w ∷ []); awaited = None })) (begin_request way t c w) tt (request_made t c w)

  pub advance_made : (t : Transactions M C) (c : Channel) → Makes (advance way t c)
  unfolding advance
  advance_made t c =
      either (is_open t.caller c) (nothing (record { transactions = t; awaited = None })) (advance_with way t c (waits_at t c)) tt (by (waits_at t c))
    where
      by : (ws : List (Waiting C)) → Makes (advance_with way t c ws)
      by [] = tt
      by (w ∷ ws) = request_made (with_waiting t c ws) c w

  pub at_once_made : (t : Transactions M C) (c : Channel) (w : Waiting C) → Makes (ask_at_once way t c w)
  unfolding ask_at_once
  at_once_made t c w = request_made (with_waiting (record t { caller = close t.caller c }) c []) c w

  pub replied_made : (t : Transactions M C) (c : Channel) (m : Message C) → Makes (replied way t c m)
  unfolding replied
  replied_made t c m = (tt, tt)

  pub late_made : (t : Transactions M C) (c : Channel) (instance : ℕ) (m : Message C) → Makes (replied_late way t c instance m)
  unfolding replied_late
  late_made t c instance m = (tt, tt)

  pub on_request_made : {R : Type 0} (same : R) (t : Transactions M C) (c : Channel) (instance : ℕ) (row : Transactions M C → Answer M P R)
      → ((u : Transactions M C) → Makes (row u)) → Makes (on_request way same t c instance row)
  unfolding on_request
  on_request_made same t c instance row each = by (verdict t.callee c instance)
    where
      kept_again : (kept : Option M) → Makes (answered_again way same c kept)
      kept_again None = tt
      kept_again (Some m) = (tt, tt)

      by : (v : Verdict) → Makes (request_by way same t c instance row v)
      by new = each (record t { callee = taken_in t.callee c instance })
      by again = kept_again (kept_reply t.callee c)
      by stale = (tt, tt)

  pub on_reply_made : {R : Type 0} (same : R) (t : Transactions M C) (c : Channel) (instance : ℕ) (row : Answer M P R) → Makes row
      → Makes (on_reply way same t c instance row)
  unfolding on_reply
  on_reply_made same t c instance row p = either (is_awaited t.caller c instance) row (drops Stale same) p (tt, tt)

-- ---- steps that are made, and what is so of the record then

module _ {M P R : Type 0} (Q : R → Type 0) where
  pub either_to : (t : Bool) (x y : Answer M P R) → MakesTo Q x → MakesTo Q y → MakesTo Q (if t then x else y)
  either_to true x y p q = p
  either_to false x y p q = q

  pub after_to : {S : Type 0} (T : S → Type 0) (a : Answer M P R) (f : R → Answer M P S) → MakesTo Q a → ((r : R) → Q r → MakesTo T (f r))
      → MakesTo T (a then f)
  after_to {S = S} T (gives os r) f p q = by (f r) (q r p.0)
    where
      by : (b : Answer M P S) → MakesTo T b → MakesTo T (with_outputs os b)
      by (gives more s) h = (h.0, all_append IsMade os more p.1 h.1)
      by (spent k) h = tt
  after_to T (spent k) f p q = tt

  -- after a step of which nothing more is said
  pub made_to : {S : Type 0} (a : Answer M P S) (f : S → Answer M P R) → Makes a → ((s : S) → MakesTo Q (f s)) → MakesTo Q (a then f)
  made_to (gives os s) f p q = by (f s) (q s)
    where
      by : (b : Answer M P R) → MakesTo Q b → MakesTo Q (with_outputs os b)
      by (gives more r) h = (h.0, all_append IsMade os more p h.1)
      by (spent k) h = tt
  made_to (spent k) f p q = tt

  pub to_stays : (r : R) (a : Answer M P R) → MakesTo Q a → StaysIn Q r a
  to_stays r a p = (by_outputs a p, by_record a p)
    where
      by_outputs : (a : Answer M P R) → MakesTo Q a → StaysWhereLone r a
      by_outputs (gives (held reason ∷ []) after) p = absurd p.1.0
      by_outputs (gives (no reason ∷ []) after) p = absurd p.1.0
      by_outputs answer p = tt

      by_record : (a : Answer M P R) → MakesTo Q a → EndsIn Q a
      by_record (gives outputs after) p = p.0
      by_record (spent counter) p = tt

  pub stays_if : (r : R) (t : Bool) (x y : Answer M P R) → StaysIn Q r x → StaysIn Q r y → StaysIn Q r (if t then x else y)
  stays_if r true x y p q = p
  stays_if r false x y p q = q

module _ {M C P R : Type 0} (way : Way M C P) (Q : R → Type 0) where
  pub on_request_to : (same : R) (t : Transactions M C) (c : Channel) (instance : ℕ) (row : Transactions M C → Answer M P R) → Q same
      → ((u : Transactions M C) → MakesTo Q (row u)) → MakesTo Q (on_request way same t c instance row)
  unfolding on_request
  on_request_to same t c instance row is each = by (verdict t.callee c instance)
    where
      kept_again : (kept : Option M) → MakesTo Q (answered_again way same c kept)
      kept_again None = (is, tt)
      kept_again (Some m) = (is, (tt, tt))

      by : (v : Verdict) → MakesTo Q (request_by way same t c instance row v)
      by new = each (record t { callee = taken_in t.callee c instance })
      by again = kept_again (kept_reply t.callee c)
      by stale = (is, (tt, tt))

  pub on_reply_to : (same : R) (t : Transactions M C) (c : Channel) (instance : ℕ) (row : Answer M P R) → Q same → MakesTo Q row
      → MakesTo Q (on_reply way same t c instance row)
  unfolding on_reply
  on_reply_to same t c instance row is p = either_to Q (is_awaited t.caller c instance) row (drops Stale same) p (is, (tt, tt))
