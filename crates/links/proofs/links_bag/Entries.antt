-- Lists, and tables as lists of their entries.
use Rattle.std.proofs.Common.{◌≡◌, ◌==◌, ℕ, zero, suc, ◌-◌, Bool, true, false, cond, not, List, [], ◌∷◌, Some, None, refl, sym, ap, ◌∙◌, subst, arith}
use Rattle.std.specs.declared.cmp.Ordering.{Ordering}
use Rattle.std.specs.declared.cmp.Ordering.TheVariants.{Less, Equal, Greater}
use Rattle.std.specs.Ordering.{match_ordering, is_eq}
use Rattle.std.specs.Cmp.{IsTotalOrder, tied_itself}
use Rattle.std.specs.List.{filter, slice_get}
use Rattle.std.specs.Map.{lookup}
use Rattle.std.specs.BTreeMap.{is_at, insert_entry}
use Rattle.std.proofs.lemmas.Bool.Decides.{nat_tests}
use Rattle.std.proofs.lemmas.Map.Keys.{sorted_from_all_adjacent}
use Rattle.tables.specs.Tables.{find, put, without, IsSorted}
use Rattle.transport_defs.specs.Links.{nth}

pub sorted_none : {K X : Type 0} {R : K → K → Ordering} (o : IsTotalOrder R) (k : K) (m : List (K × X)) → m ≡ [] → IsSorted R m
sorted_none {K = K} {X = X} {R = R} o k m is =
    subst (λ (m : List (K × X)). IsSorted R m) (sym is) (sorted_from_all_adjacent o [] k (λ j h. absurd (omega arith)))

module _ {K X : Type 0} (R : K → K → Ordering) (o : IsTotalOrder R) where
  -- what is put where nothing stands, and taken out again
  keeps : (k : K) (es : List (K × X)) → lookup (is_at (R k)) es ≡ None → filter (λ f. not (is_at (R k) f.0)) es ≡ es
  keeps k [] none = refl
  keeps k (f ∷ fs) none = each (is_at (R k) f.0) none (keeps k fs)
    where
      each : (b : Bool) → cond b (Some f.1) (lookup (is_at (R k)) fs) ≡ None
          → (lookup (is_at (R k)) fs ≡ None → filter (λ f. not (is_at (R k) f.0)) fs ≡ fs)
          → cond (not b) (f ∷ filter (λ f. not (is_at (R k) f.0)) fs) (filter (λ f. not (is_at (R k) f.0)) fs) ≡ f ∷ fs
      each true none rest = absurd cc
      each false none rest = ap (λ (m : List (K × X)). f ∷ m) (rest none)

  pub without-put : (m : List (K × X)) (k : K) (v : X) → find R m k ≡ None → without R (put R m k v) k ≡ m
  unfolding find put without
  without-put [] k v none =
      ap (λ (b : Bool). cond {A = List (K × X)} (not b) ((k, v) ∷ []) []) (ap is_eq (tied_itself o k))
  without-put (e ∷ es) k v none = by (R k e.0) refl (without-put es k v)
    where
      gone : (r : Ordering) → R k e.0 ≡ r → cond (is_eq r) (Some e.1) (lookup (is_at (R k)) es) ≡ None
      gone r is = ap (λ (r : Ordering). cond (is_eq r) (Some e.1) (lookup (is_at (R k)) es)) (sym is) ∙ none

      stays : (r : Ordering) (m : List (K × X)) → R k e.0 ≡ r
          → cond (not (is_at (R k) e.0)) (e ∷ m) m ≡ cond (not (is_eq r)) (e ∷ m) m
      stays r m is = ap (λ (r : Ordering). cond (not (is_eq r)) (e ∷ m) m) is

      by : (r : Ordering) → R k e.0 ≡ r
          → (lookup (is_at (R k)) es ≡ None → filter (λ f. not (is_at (R k) f.0)) (insert_entry R es k v) ≡ es)
          → filter (λ f. not (is_at (R k) f.0)) (match_ordering r ((k, v) ∷ e ∷ es) ((e.0, v) ∷ es) (e ∷ insert_entry R es k v)) ≡ e ∷ es
      by Less is rest =
          ap (λ (r : Ordering). cond (not (is_eq r)) ((k, v) ∷ filter (λ f. not (is_at (R k) f.0)) (e ∷ es)) (filter (λ f. not (is_at (R k) f.0)) (e ∷ es)))
          (tied_itself o k)
          ∙ keeps k (e ∷ es) none
      by Equal is rest = let found = gone Equal is in absurd cc
      by Greater is rest =
          stays Greater (filter (λ f. not (is_at (R k) f.0)) (insert_entry R es k v)) is
          ∙ ap (λ (m : List (K × X)). e ∷ m) (rest (gone Greater is))

pub nth_next : {X : Type 0} (x : X) (xs : List X) (n : ℕ) → nth (x ∷ xs) (suc n) ≡ nth xs n
nth_next x xs n =
    let one : suc n - 1 ≡ n = omega arith in
    let more : (suc n == 0) ≡ false = grind (arith, nat_tests) in
    ap (λ (b : Bool). cond b (Some x) (nth xs (suc n - 1))) more ∙ ap (nth xs) one

pub nth_is_get : {X : Type 0} (xs : List X) (n : ℕ) → nth xs n ≡ slice_get xs n
nth_is_get [] n = refl
nth_is_get (x ∷ xs) zero = refl
nth_is_get (x ∷ xs) (suc n) = nth_next x xs n ∙ nth_is_get xs n
