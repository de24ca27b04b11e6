-- To put back what stands in a table in order changes nothing.
use Rattle.std.proofs.Common.{◌≡◌, Bool, true, false, cond, List, [], ◌∷◌, Option, Some, None, refl, sym, ap, ◌∙◌}
use Rattle.std.specs.declared.cmp.Ordering.{Ordering}
use Rattle.std.specs.declared.cmp.Ordering.TheVariants.{Less, Equal, Greater}
use Rattle.std.specs.Ordering.{is_eq, match_ordering}
use Rattle.std.specs.Cmp.{IsTotalOrder}
use Rattle.std.specs.List.{AllByRecursion}
use Rattle.std.specs.Map.{lookup, keys_of}
use Rattle.std.specs.BTreeMap.{is_at, insert_entry}
use Rattle.std.proofs.lemmas.Map.Keys.{sorted_head, sorted_tail}
use Rattle.tables.specs.Tables.{find, put, IsSorted}

below_all : {K : Type 0} {R : K → K → Ordering} (o : IsTotalOrder R) (k e : K) (ks : List K) → R k e ≡ Less → AllByRecursion (λ y. R e y ≡ Less) ks
    → AllByRecursion (λ y. R k y ≡ Less) ks
below_all o k e [] below all = tt
below_all o k e (y ∷ ys) below all = (o.trans k e y below all.0, below_all o k e ys below all.1)

module _ {K X : Type 0} (R : K → K → Ordering) where
  none_above : (k : K) (es : List (K × X)) → AllByRecursion (λ y. R k y ≡ Less) (keys_of es) → find R es k ≡ None
  unfolding find
  none_above k [] all = refl
  none_above k (e ∷ es) all = ap (λ (r : Ordering). cond (is_eq r) (Some e.1) (lookup (is_at (R k)) es)) all.0 ∙ none_above k es all.1

module _ {K X : Type 0} {R : K → K → Ordering} (o : IsTotalOrder R) where
  back_at : (r : Ordering) (e : K × X) (es : List (K × X)) (k : K) (x : X) → R k e.0 ≡ r → IsSorted R (e ∷ es)
      → (find R es k ≡ Some x → put R es k x ≡ es) → find R (e ∷ es) k ≡ Some x → put R (e ∷ es) k x ≡ e ∷ es
  unfolding find put
  back_at Less e es k x at sorted again is =
      let none : find R (e ∷ es) k ≡ None =
      ap (λ (r : Ordering). cond (is_eq r) (Some e.1) (lookup (is_at (R k)) es)) at
      ∙ none_above R k es (below_all o k e.0 (keys_of es) at (sorted_head R e.0 (keys_of es) sorted)) in
      let both : ◌≡◌ {A = Option X} None (Some x) = sym none ∙ is in
      absurd cc
  back_at Equal e es k x at sorted again is =
      let there : ◌≡◌ {A = Option X} (Some e.1) (Some x) = sym (ap (λ (r : Ordering). cond (is_eq r) (Some e.1) (lookup (is_at (R k)) es)) at) ∙ is in
      let same : x ≡ e.1 = cc in
      ap (λ (r : Ordering). match_ordering r ((k, x) ∷ e ∷ es) ((e.0, x) ∷ es) (e ∷ insert_entry R es k x)) at
      ∙ ap (λ (y : X). (e.0, y) ∷ es) same
  back_at Greater e es k x at sorted again is =
      ap (λ (r : Ordering). match_ordering r ((k, x) ∷ e ∷ es) ((e.0, x) ∷ es) (e ∷ insert_entry R es k x)) at
      ∙ ap (λ (m : List (K × X)). e ∷ m) (again (sym (ap (λ (r : Ordering). cond (is_eq r) (Some e.1) (lookup (is_at (R k)) es)) at) ∙ is))

  pub put_back : (m : List (K × X)) (k : K) (x : X) → IsSorted R m → find R m k ≡ Some x → put R m k x ≡ m
  unfolding find
  put_back [] k x sorted is = absurd cc
  put_back (e ∷ es) k x sorted is =
      back_at (R k e.0) e es k x refl sorted (put_back es k x (sorted_tail R e.0 (keys_of es) sorted)) is
