-- The timer after a step.
use Rattle.std.proofs.Common.{◌≡◌, ℕ, ◌<◌, ◌≤◌, Bool, true, false, cond, nat_lt, nat_le, Option, Some, None, is_some, refl, sym, subst, arith}
use Rattle.std.specs.Prelude.{IfSome}
use Rattle.std.proofs.lemmas.Bool.Decides.{nat_tests}
use Rattle.pdcp_defs.specs.Receivers.{Receiver}
use Rattle.um_defs.specs.Receivers.{UmReceiver, started, stopped}

less_from : (a b : ℕ) → nat_lt a b ≡ true → a < b
less_from a b h = grind (arith, nat_tests)

above_from : (a b : ℕ) → nat_le a b ≡ false → b < a
above_from a b h = grind (arith, nat_tests)

is_less : (a b : ℕ) → a < b → nat_lt a b ≡ true
is_less a b h = grind (arith, nat_tests)

-- what a timer still has, and what it waits for, stays so
pub record IsTimed {X : Type 0} (ticks : ℕ) (r s : UmReceiver X) : Type 1 where
  pub receiver : s.receiver ≡ r.receiver
  pub next : s.next ≡ r.next
  pub reord : s.reord ≤ s.next
  pub runs : is_some s.left ≡ nat_lt s.receiver.deliv s.next
  pub awaits : IfSome s.left (λ left. s.receiver.deliv < s.reord)
  pub waits : (P : ℕ → ℕ → Type 0) → ((left : ℕ) → r.left ≡ Some left → P left r.reord) → (0 < r.next → P ticks r.next)
      → (left : ℕ) → s.left ≡ Some left → P left s.reord

module _ {X : Type 0} (ticks : ℕ) (rc : Receiver X) (next reord : ℕ) (low : reord ≤ next) where
  without : UmReceiver X
  without = record { receiver = rc; next = next; reord = reord; left = None }

  starts : (b : Bool) → nat_lt rc.deliv next ≡ b → (old : Option ℕ)
      → IsTimed ticks (record { receiver = rc; next = next; reord = reord; left = old })
      (cond b (record { receiver = rc; next = next; reord = next; left = Some ticks }) (record { receiver = rc; next = next; reord = reord; left = None }))
  starts true test old = record {
    receiver = refl;
    next = refl;
    reord = omega arith;
    runs = sym test;
    awaits = less_from rc.deliv next test;
    waits = λ P was now left is. let at : ticks ≡ left = cc in subst (λ n. P n next) at (now (omega (arith, less_from rc.deliv next test)));
  }
  starts false test old = record {
    receiver = refl;
    next = refl;
    reord = low;
    runs = sym test;
    awaits = tt;
    waits = λ P was now left is. absurd (cc);
  }

  pub starts_anew : IsTimed ticks (record { receiver = rc; next = next; reord = reord; left = None })
      (started ticks (record { receiver = rc; next = next; reord = reord; left = None }))
  starts_anew = starts (nat_lt rc.deliv next) refl None

  goes_on : (b : Bool) (left : ℕ) → nat_le reord rc.deliv ≡ b
      → IsTimed ticks (record { receiver = rc; next = next; reord = reord; left = Some left })
      (started ticks (cond b (record { receiver = rc; next = next; reord = reord; left = None }) (record { receiver = rc; next = next; reord = reord; left = Some left })))
  goes_on true left test = starts (nat_lt rc.deliv next) refl (Some left)
  goes_on false left test =
      let above = above_from reord rc.deliv test in
      record {
        receiver = refl;
        next = refl;
        reord = low;
        runs = sym (is_less rc.deliv next (omega (arith, above, low)));
        awaits = above;
        waits = λ P was now l is. was l is;
      }

  pub timed_so : (left : Option ℕ) → IsTimed ticks (record { receiver = rc; next = next; reord = reord; left = left })
      (started ticks (stopped (record { receiver = rc; next = next; reord = reord; left = left })))
  timed_so None = starts_anew
  timed_so (Some left) = goes_on (nat_le reord rc.deliv) left refl
