-- How the next TEID, and what is open, change: what is given, what is closed, and one after another.
use Rattle.std.proofs.Common.{◌≡◌, ◌≤◌, ◌==◌, ℕ, zero, suc, ◌+◌, ◌-◌, Bool, true, false, cond, not, ◌&&◌, List, [], ◌∷◌, length, Some, None, ◌⊎◌, inl, inr, refl, sym, ap, ◌∙◌, arith, eqb-true, leb-true}
use Rattle.std.specs.Prelude.{if◌then◌else◌, nat_le}
use Rattle.std.specs.Ordering.{nat_cmp, eq_by_cmp}
use Rattle.std.specs.Cmp.{nat_cmp_total, Equal-is}
use Rattle.std.specs.List.{AllByRecursion}
use Rattle.std.proofs.lemmas.Map.Lookups.{exact_unsigned}
use Rattle.tables.specs.Tables.{find, put, without}
use Rattle.tables.proofs.TableLaws.{find-put, find-without}
use Rattle.unit_defs.specs.Teids.{last_teid, teids_are_left, teid_after, without_each}
use Rattle.proof_run_steps.specs.teids.Given.{count_from, GivesNext, below, GrowsTo}

-- ---- numbers

pub counted : (first n : ℕ) → length (count_from first n) ≡ n
counted first zero = refl
counted first (suc n) = ap (λ (m : ℕ). suc m) (counted (first + 1) n)

pub gives_counted : (next n : ℕ) (teids : List ℕ) (after : ℕ) → teids ≡ count_from next n → teids_are_left next n ≡ true → after ≡ teid_after next n
    → GivesNext next teids after
gives_counted next n teids after are left is =
    let long : length teids ≡ n = ap length are ∙ counted next n in (
      are ∙ ap (count_from next) (sym long),
      inr (ap (teids_are_left next) long ∙ left, is ∙ ap (teid_after next) (sym long)),
    )

pub gives_none : (next : ℕ) (teids : List ℕ) (after : ℕ) → teids ≡ [] → after ≡ next → GivesNext next teids after
gives_none next teids after none is = (none ∙ ap (λ (ts : List ℕ). count_from next (length ts)) (sym none), inl (none, is))

le_true : (a b : ℕ) → nat_le a b ≡ true → a ≤ b
le_true a b h = leb-true a b h

first_not : (t b : Bool) → not t && b ≡ true → t ≡ false
first_not true b h = absurd cc
first_not false b h = refl

second_of : (a b : Bool) → a && b ≡ true → b ≡ true
second_of true b h = h
second_of false b h = absurd cc

-- where some are left, the next one is there
pub is_next : (next count : ℕ) → teids_are_left next count ≡ true → (next == 0) ≡ false
is_next next count left = first_not (next == 0) (nat_le (next + count - 1) last_teid) left

pub below_left : (next count : ℕ) → teids_are_left next count ≡ true → below next ≡ next
below_left next count left = ap (λ (t : Bool). if t then last_teid + 1 else next) (is_next next count left)

above_none : (n : ℕ) → (n == 0) ≡ false → 1 ≤ n
above_none zero h = absurd cc
above_none (suc n) h = omega arith

not_none : (n : ℕ) → 1 ≤ n → below n ≡ n
not_none n h = by (n == 0) refl
  where
    by : (t : Bool) → (n == 0) ≡ t → (if t then last_teid + 1 else n) ≡ n
    by true e = let none : n ≡ 0 = eqb-true n 0 e in absurd (omega arith)
    by false e = refl

-- after so many, as many are given
pub below_after : (next count : ℕ) → teids_are_left next count ≡ true → below (teid_after next count) ≡ below next + count
below_after next count left = by (next + count - 1 == last_teid) refl ∙ ap (λ (n : ℕ). n + count) (sym (below_left next count left))
  where
    some : 1 ≤ next
    some = above_none next (is_next next count left)

    by : (t : Bool) → (next + count - 1 == last_teid) ≡ t → below (if t then 0 else next + count) ≡ next + count
    by true last = let at : next + count - 1 ≡ last_teid = eqb-true (next + count - 1) last_teid last in omega (arith, some)
    by false more = not_none (next + count) (omega (arith, some))

-- ---- tables

same_key : (a b : ℕ) → eq_by_cmp nat_cmp a b ≡ true → a ≡ b
same_key a b h = exact_unsigned a b ((Equal-is (nat_cmp a b)).0 h)

-- entries from one TEID on, up to another
abbrev pub Within : {V : Type 0} → ℕ → ℕ → ℕ × V → Type 0
Within low high e = (low ≤ e.0) × (e.0 + 1 ≤ high)

abbrev pub AllWithin : {V : Type 0} → ℕ → ℕ → List (ℕ × V) → Type 0
AllWithin low high es = AllByRecursion (Within low high) es

module _ {X : Type 0} where
  -- what stands at a key after a put stood there, or was put
  pub put_or : (m : List (ℕ × X)) (k : ℕ) (v : X) (q : ℕ) (x : X) → find nat_cmp (put nat_cmp m k v) q ≡ Some x
      → ((q ≡ k) × (v ≡ x)) ⊎ (find nat_cmp m q ≡ Some x)
  put_or m k v q x e = by (eq_by_cmp nat_cmp q k) refl (sym (find-put nat_cmp_total m k v q) ∙ e)
    where
      by : (t : Bool) → eq_by_cmp nat_cmp q k ≡ t → cond t (Some v) (find nat_cmp m q) ≡ Some x → ((q ≡ k) × (v ≡ x)) ⊎ (find nat_cmp m q ≡ Some x)
      by true tie h = let vx : v ≡ x = cc in inl (same_key q k tie, vx)
      by false apart h = inr h

  -- what stands there without a key stood there, and elsewhere
  pub without_and : (m : List (ℕ × X)) (k q : ℕ) (x : X) → find nat_cmp (without nat_cmp m k) q ≡ Some x
      → (eq_by_cmp nat_cmp q k ≡ false) × (find nat_cmp m q ≡ Some x)
  without_and m k q x e = by (eq_by_cmp nat_cmp q k) refl (sym (find-without nat_cmp_total m k q) ∙ e)
    where
      by : (t : Bool) → eq_by_cmp nat_cmp q k ≡ t → cond t None (find nat_cmp m q) ≡ Some x → (eq_by_cmp nat_cmp q k ≡ false) × (find nat_cmp m q ≡ Some x)
      by true tie h = absurd cc
      by false apart h = (apart, h)

  abbrev pub Fewer : List (ℕ × X) → List (ℕ × X) → Type 0
  Fewer later tunnels = (teid : ℕ) (owner : X) → find nat_cmp later teid ≡ Some owner → find nat_cmp tunnels teid ≡ Some owner

  pub fewer_each : (teids : List ℕ) (m : List (ℕ × X)) → Fewer (without_each m teids) m
  fewer_each [] m teid owner e = e
  fewer_each (t ∷ ts) m teid owner e = (without_and m t teid owner (fewer_each ts (without nat_cmp m t) teid owner e)).1

  pub grows_less : (n : ℕ) (ts later : List (ℕ × X)) → Fewer later ts → GrowsTo n ts n later
  grows_less n ts later fewer = (omega arith, λ teid owner e. inl (fewer teid owner e))

  pub grows_then : (a : ℕ) (xs : List (ℕ × X)) (b : ℕ) (ys : List (ℕ × X)) (c : ℕ) (zs : List (ℕ × X)) → GrowsTo a xs b ys → GrowsTo b ys c zs → GrowsTo a xs c zs
  grows_then a xs b ys c zs p q = (omega (arith, p.0, q.0), λ teid owner e. by teid owner (q.1 teid owner e))
    where
      first : (teid : ℕ) (owner : X) → (find nat_cmp xs teid ≡ Some owner) ⊎ ((below a ≤ teid) × (teid + 1 ≤ below b))
          → (find nat_cmp xs teid ≡ Some owner) ⊎ ((below a ≤ teid) × (teid + 1 ≤ below c))
      first teid owner (inl there) = inl there
      first teid owner (inr new) = let low = new.0 in let high = new.1 in inr (low, omega (arith, high, q.0))

      by : (teid : ℕ) (owner : X) → (find nat_cmp ys teid ≡ Some owner) ⊎ ((below b ≤ teid) × (teid + 1 ≤ below c))
          → (find nat_cmp xs teid ≡ Some owner) ⊎ ((below a ≤ teid) × (teid + 1 ≤ below c))
      by teid owner (inl there) = first teid owner (p.1 teid owner there)
      by teid owner (inr new) = inr (omega (arith, new.0, p.0), new.1)
