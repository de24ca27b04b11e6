-- What is done to each value of a table, one after another.
use Rattle.std.proofs.Common.{◌≡◌, cond, List, [], ◌∷◌, Option, Some, None, refl, ap, ◌∙◌}
use Rattle.std.specs.declared.cmp.Ordering.{Ordering}
use Rattle.std.specs.declared.cmp.Ordering.TheVariants.{Less, Greater}
use Rattle.std.specs.Ordering.{is_eq, match_ordering, ordering_reverse}
use Rattle.std.specs.Cmp.{IsTotalOrder, tied_itself}
use Rattle.std.specs.List.{AllByRecursion}
use Rattle.std.specs.Map.{keys_of}
use Rattle.std.specs.BTreeMap.{insert_entry}
use Rattle.std.proofs.lemmas.Map.Keys.{sorted_head, sorted_tail}
use Rattle.tables.specs.Tables.{find, put, map_values, IsSorted}
use Rattle.site.specs.site_tables.Each.{one_at, each_at}

module _ {K X : Type 0} {R : K → K → Ordering} (o : IsTotalOrder R) (f : X → X) where
  -- an entry below all of the keys stays as it is
  above : (e : K × X) (m : List (K × X)) (k : K) → R k e.0 ≡ Greater → one_at R f (e ∷ m) k (find R (e ∷ m) k) ≡ e ∷ one_at R f m k (find R m k)
  unfolding find put
  above e m k is =
      ap (λ (r : Ordering). one_at R f (e ∷ m) k (cond (is_eq r) (Some e.1) (find R m k))) is ∙ by (find R m k)
    where
      by : (x : Option X) → one_at R f (e ∷ m) k x ≡ e ∷ one_at R f m k x
      by None = refl
      by (Some x) = ap (λ (r : Ordering). match_ordering r ((k, f x) ∷ e ∷ m) ((e.0, f x) ∷ m) (e ∷ insert_entry R m k (f x))) is

  passes : (e : K × X) (ks : List K) (m : List (K × X)) → AllByRecursion (λ k. R e.0 k ≡ Less) ks → each_at R f ks (e ∷ m) ≡ e ∷ each_at R f ks m
  passes e [] m below = refl
  passes e (k ∷ ks) m below =
      ap (λ (es : List (K × X)). each_at R f ks es) (above e m k (o.antisymm k e.0 ∙ ap ordering_reverse below.0))
      ∙ passes e ks (one_at R f m k (find R m k)) below.1

  at_head : (e : K × X) (es : List (K × X)) → one_at R f (e ∷ es) e.0 (find R (e ∷ es) e.0) ≡ (e.0, f e.1) ∷ es
  unfolding find put
  at_head e es =
      ap (λ (r : Ordering). one_at R f (e ∷ es) e.0 (cond (is_eq r) (Some e.1) (find R es e.0))) (tied_itself o e.0)
      ∙ ap (λ (r : Ordering). match_ordering r ((e.0, f e.1) ∷ e ∷ es) ((e.0, f e.1) ∷ es) (e ∷ insert_entry R es e.0 (f e.1))) (tied_itself o e.0)

  pub done_to_all : (m : List (K × X)) → IsSorted R m → each_at R f (keys_of m) m ≡ map_values f m
  unfolding map_values
  done_to_all [] sorted = refl
  done_to_all (e ∷ es) sorted =
      ap (λ (m : List (K × X)). each_at R f (keys_of es) m) (at_head e es)
      ∙ passes (e.0, f e.1) (keys_of es) es (sorted_head R e.0 (keys_of es) sorted)
      ∙ ap (λ (m : List (K × X)). (e.0, f e.1) ∷ m) (done_to_all es (sorted_tail R e.0 (keys_of es) sorted))
