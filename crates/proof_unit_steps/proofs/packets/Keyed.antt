-- Tables of which each value has a property of its key.
use Rattle.std.proofs.Common.{◌≡◌, Bool, true, false, cond, List, [], ◌∷◌, Some, refl, sym, subst}
use Rattle.std.specs.declared.cmp.Ordering.{Ordering}
use Rattle.std.specs.declared.cmp.Ordering.TheVariants.{Less, Equal, Greater}
use Rattle.std.specs.Ordering.{match_ordering}
use Rattle.std.specs.Cmp.{Equal-is}
use Rattle.std.specs.List.{AllByRecursion}
use Rattle.std.specs.Map.{lookup}
use Rattle.std.specs.BTreeMap.{is_at, insert_entry}
use Rattle.tables.specs.Tables.{find, put}

module _ {K X : Type 0} (R : K → K → Ordering) (exact : (a b : K) → R a b ≡ Equal → a ≡ b) (Q : K → X → Type 0) where
  abbrev Keyed : List (K × X) → Type 0
  Keyed es = AllByRecursion (λ (e : K × X). Q e.0 e.1) es

  pub keyed_found : (es : List (K × X)) (k : K) (x : X) → Keyed es → find R es k ≡ Some x → Q k x
  unfolding find
  keyed_found [] k x all there = absurd cc
  keyed_found (e ∷ es) k x all there = by (keyed_found es k x all.1) (is_at (R k) e.0) refl there
    where
      by : (find R es k ≡ Some x → Q k x) → (t : Bool) → is_at (R k) e.0 ≡ t → cond t (Some e.1) (lookup (is_at (R k)) es) ≡ Some x → Q k x
      by later true tie h =
          let same : k ≡ e.0 = exact k e.0 ((Equal-is (R k e.0)).0 tie) in
          let those : e.1 ≡ x = cc in
          subst (λ (j : K). Q j x) (sym same) (subst (λ (y : X). Q e.0 y) those all.0)
      by later false apart h = later h

  pub keyed_put : (es : List (K × X)) (k : K) (x : X) → Keyed es → Q k x → Keyed (put R es k x)
  unfolding put
  keyed_put [] k x all p = (p, tt)
  keyed_put (e ∷ es) k x all p = by (R k e.0) refl (keyed_put es k x all.1 p)
    where
      by : (r : Ordering) → R k e.0 ≡ r → Keyed (insert_entry R es k x)
          → Keyed (match_ordering r ((k, x) ∷ e ∷ es) ((e.0, x) ∷ es) (e ∷ insert_entry R es k x))
      by Less at rest = (p, all)
      by Equal at rest = (subst (λ (j : K). Q j x) (exact k e.0 at) p, all.1)
      by Greater at rest = (all.0, rest)
