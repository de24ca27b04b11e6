-- Lists of numbered packets, each with a property.
use Rattle.std.proofs.Common.{◌≡◌, ℕ, ◌+◌, ◌-◌, ◌<◌, ◌≤◌, Bool, true, false, cond, not, min, List, [], ◌∷◌, ◌++◌, Some, sym, subst, arith}
use Rattle.std.specs.Cmp.{ranks}
use Rattle.std.specs.Ordering.{nat_cmp, is_eq, match_ordering, MatchOrdering}
use Rattle.std.specs.declared.cmp.Ordering.{Ordering}
use Rattle.std.specs.declared.cmp.Ordering.TheVariants.{Less, Equal, Greater}
use Rattle.std.specs.List.{filter}
use Rattle.std.specs.Map.{lookup}
use Rattle.std.specs.BTreeMap.{is_at, insert_entry}
use Rattle.tables.specs.Tables.{find, put, without}
use Rattle.law_um.specs.Sound.{IsWithin}
use Rattle.law_um.proofs.Deliveries.{lower}
use Rattle.um_defs.specs.um_run_defs.Run.{least_on_link}

abbrev pub Each : {X : Type 0} → (ℕ → X → Type 0) → List (ℕ × X) → Type 0
Each P [] = Unit {0}
Each P (e ∷ es) = P e.0 e.1 × Each P es

pub each_as : {X : Type 0} (P Q : ℕ → X → Type 0) → ((k : ℕ) (x : X) → P k x → Q k x) → (es : List (ℕ × X)) → Each P es → Each Q es
each_as P Q turn [] each = tt
each_as P Q turn (e ∷ es) each = (turn e.0 e.1 each.0, each_as P Q turn es each.1)

pub each_put : {X : Type 0} (P : ℕ → X → Type 0) (es : List (ℕ × X)) (k : ℕ) (x : X) → Each P es → P k x → Each P (put nat_cmp es k x)
unfolding put
each_put P [] k x each here = (here, tt)
each_put P (e ∷ es) k x each here = by (nat_cmp k e.0) (ranks k e.0) (each_put P es k x each.1 here)
  where
    by : (r : Ordering) → MatchOrdering r (k < e.0) (k ≡ e.0) (e.0 < k) → Each P (insert_entry nat_cmp es k x)
        → Each P (match_ordering r ((k, x) ∷ e ∷ es) ((e.0, x) ∷ es) (e ∷ insert_entry nat_cmp es k x))
    by Less is later = (here, (each.0, each.1))
    by Equal is later = (subst (λ n. P n x) is here, each.1)
    by Greater is later = (each.0, later)

pub each_without : {X : Type 0} (P : ℕ → X → Type 0) (es : List (ℕ × X)) (k : ℕ) → Each P es → Each P (without nat_cmp es k)
unfolding without
each_without P [] k each = tt
each_without P (e ∷ es) k each = by (is_at (nat_cmp k) e.0) (each_without P es k each.1)
  where
    by : (b : Bool) → Each P (filter (λ f. not (is_at (nat_cmp k) f.0)) es)
        → Each P (cond (not b) (e ∷ filter (λ f. not (is_at (nat_cmp k) f.0)) es) (filter (λ f. not (is_at (nat_cmp k) f.0)) es))
    by true later = later
    by false later = (each.0, later)

pub each_find : {X : Type 0} (P : ℕ → X → Type 0) (es : List (ℕ × X)) (k : ℕ) (x : X) → Each P es → find nat_cmp es k ≡ Some x → P k x
unfolding find
each_find P [] k x each h = absurd (cc)
each_find P (e ∷ es) k x each h = by (nat_cmp k e.0) (ranks k e.0) h (each_find P es k x each.1)
  where
    by : (r : Ordering) → MatchOrdering r (k < e.0) (k ≡ e.0) (e.0 < k) → cond (is_eq r) (Some e.1) (lookup (is_at (nat_cmp k)) es) ≡ Some x
        → (lookup (is_at (nat_cmp k)) es ≡ Some x → P k x) → P k x
    by Less is h later = later h
    by Equal is h later = let value : e.1 ≡ x = cc in subst (P k) value (subst (λ n. P n e.1) (sym is) each.0)
    by Greater is h later = later h

pub each_front : {X : Type 0} (P : ℕ → X → Type 0) (ps es : List (ℕ × X)) → Each P (ps ++ es) → Each P ps
each_front P [] es each = tt
each_front P (p ∷ ps) es each = (each.0, each_front P ps es each.1)

pub each_rest : {X : Type 0} (P : ℕ → X → Type 0) (ps es : List (ℕ × X)) → Each P (ps ++ es) → Each P es
each_rest P [] es each = each
each_rest P (p ∷ ps) es each = each_rest P ps es each.1

pub within_each : {X : Type 0} (low high : ℕ) (es : List (ℕ × X)) → IsWithin low high es → Each (λ k x. (low ≤ k) × (k < high)) es
within_each low high [] is = tt
within_each low high (e ∷ es) is = (
  (is.0, is.1),
  each_as (λ k x. (e.0 + 1 ≤ k) × (k < high)) (λ k x. (low ≤ k) × (k < high)) (λ k x h. (omega (arith, h.0, is.0), h.1)) es
      (within_each (e.0 + 1) high es is.2),
)

pub within_without : {X : Type 0} (low high : ℕ) (es : List (ℕ × X)) (k : ℕ) → IsWithin low high es → IsWithin low high (without nat_cmp es k)
unfolding without
within_without low high [] k is = tt
within_without low high (e ∷ es) k is = by (is_at (nat_cmp k) e.0) (within_without (e.0 + 1) high es k is.2)
  where
    by : (b : Bool) → IsWithin (e.0 + 1) high (filter (λ f. not (is_at (nat_cmp k) f.0)) es)
        → IsWithin low high (cond (not b) (e ∷ filter (λ f. not (is_at (nat_cmp k) f.0)) es) (filter (λ f. not (is_at (nat_cmp k) f.0)) es))
    by true later = lower (e.0 + 1) low high (filter (λ f. not (is_at (nat_cmp k) f.0)) es) (omega (arith, is.0)) later
    by false later = (is.0, is.1, later)

-- what is on the link isn't below the least
pub least_each : (deliv low high : ℕ) (es : List (ℕ × List ℕ)) → IsWithin low high es → Each (λ k x. least_on_link deliv es ≤ k - 1) es
least_each deliv low high [] is = tt
least_each deliv low high (e ∷ es) is =
    (omega arith, each_as (λ k x. (e.0 + 1 ≤ k) × (k < high)) (λ k x. min deliv (e.0 - 1) ≤ k - 1) (λ k x h. omega (arith, h.0)) es (within_each (e.0 + 1) high es is.2))

pub least_low : (deliv : ℕ) (es : List (ℕ × List ℕ)) → least_on_link deliv es ≤ deliv
least_low deliv [] = omega arith
least_low deliv (e ∷ es) = omega arith
