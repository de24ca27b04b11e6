-- Answers after which something holds: by cases, one after another, and where a request or a reply is taken.
use Rattle.std.proofs.Common.{ℕ, Bool, true, false, Option, Some, None}
use Rattle.std.specs.Prelude.{if◌then◌else◌}
use Rattle.gnb_types.specs.declared.keys.Channel.{Channel}
use Rattle.transaction_defs.specs.Callers.{is_awaited}
use Rattle.transaction_defs.specs.Callees.{Verdict, new, again, stale, verdict, taken, kept_reply}
use Rattle.unit_defs.specs.Ways.{Way, Answer, gives, spent, with_outputs, ◌then◌}
use Rattle.unit_defs.specs.Transactions.{Transactions, answered_again, request_by, on_request, on_reply}
use Rattle.proof_unit_steps.specs.answers.After.{HoldsAfter}

module _ {M P : Type 0} where
  pub holds_if : {R : Type 0} (Q : R → Type 0) (t : Bool) (x y : Answer M P R) → HoldsAfter Q x → HoldsAfter Q y → HoldsAfter Q (if t then x else y)
  holds_if Q true x y p q = p
  holds_if Q false x y p q = q

  pub holds_then : {R S : Type 0} (Q : R → Type 0) (T : S → Type 0) (a : Answer M P R) (f : R → Answer M P S) → HoldsAfter Q a
      → ((r : R) → Q r → HoldsAfter T (f r)) → HoldsAfter T (a then f)
  holds_then {S = S} Q T (gives os r) f p q = by (f r) (q r p)
    where
      by : (b : Answer M P S) → HoldsAfter T b → HoldsAfter T (with_outputs os b)
      by (gives more s) h = h
      by (spent k) h = tt
  holds_then Q T (spent k) f p q = tt

  pub any_then : {R S : Type 0} (T : S → Type 0) (a : Answer M P R) (f : R → Answer M P S) → ((r : R) → HoldsAfter T (f r)) → HoldsAfter T (a then f)
  any_then {R = R} T a f q = holds_then (λ (r : R). Unit {0}) T a f (all a) (λ r h. q r)
    where
      all : (b : Answer M P R) → HoldsAfter (λ (r : R). Unit {0}) b
      all (gives os r) = tt
      all (spent k) = tt

module _ {M C P R : Type 0} (way : Way M C P) (Q : R → Type 0) where
  pub holds_request : (same : R) (t : Transactions M C) (c : Channel) (instance : ℕ) (row : Transactions M C → Answer M P R) → Q same
      → ((u : Transactions M C) → HoldsAfter Q (row u)) → HoldsAfter Q (on_request way same t c instance row)
  unfolding on_request
  holds_request same t c instance row is each = by (verdict t.callee c instance)
    where
      kept_again : (kept : Option M) → HoldsAfter Q (answered_again way same c kept)
      kept_again None = is
      kept_again (Some m) = is

      by : (v : Verdict) → HoldsAfter Q (request_by way same t c instance row v)
      by new = each (record t { callee = taken t.callee c instance })
      by again = kept_again (kept_reply t.callee c)
      by stale = is

  pub holds_reply : (same : R) (t : Transactions M C) (c : Channel) (instance : ℕ) (row : Answer M P R) → Q same → HoldsAfter Q row
      → HoldsAfter Q (on_reply way same t c instance row)
  unfolding on_reply
  holds_reply same t c instance row is p = holds_if Q (is_awaited t.caller c instance) row _ p is
