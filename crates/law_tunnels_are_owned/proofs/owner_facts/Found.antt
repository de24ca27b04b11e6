-- Bearers in a context's table: which one is found, where they are in ascending order.
use Rattle.std.proofs.Common.{◌≡◌, ◌≤◌, ℕ, ◌+◌, Bool, true, false, cond, List, [], ◌∷◌, Option, Some, None, ◌⊎◌, inl, inr, refl, sym, ap, ◌∙◌, arith}
use Rattle.std.specs.Ordering.{is_eq, ordering_reverse}
use Rattle.std.specs.Cmp.{tied_itself, Equal-is, nat_cmp_is}
use Rattle.std.specs.List.{AllByRecursion}
use Rattle.std.specs.declared.cmp.Ordering.TheVariants.{Less}
use Rattle.std.specs.Map.{lookup, keys_of}
use Rattle.std.specs.BTreeMap.{is_at}
use Rattle.std.proofs.lemmas.Map.Keys.{sorted_head}
use Rattle.gnb_types.specs.declared.names.BearerId.{BearerId}
use Rattle.gnb_types.specs.Orders.{bearer_cmp}
use Rattle.gnb_types.proofs.OrderLemmas.{bearer_total, bearer_exact}
use Rattle.tables.specs.Tables.{find, IsSorted}
use Rattle.law_tunnels_are_owned.specs.owner_facts.Owned.{has_such}

module _ {X : Type 0} (test : X → Bool) where
  has_some : (o : Option X) → has_such test o ≡ true → (b : X) × (o ≡ Some b)
  has_some None h = absurd cc
  has_some (Some b) h = (b, refl)

  found_after : (k : BearerId) (es : List (BearerId × X)) (x : BearerId) (b : X) → AllByRecursion (λ y. bearer_cmp k y ≡ Less) (keys_of es)
      → find bearer_cmp es x ≡ Some b → is_at (bearer_cmp x) k ≡ false
  unfolding find
  found_after k [] x b all e = absurd cc
  found_after k (f ∷ fs) x b all e = by (found_after k fs x b all.1) (is_at (bearer_cmp x) f.0) refl e
    where
      by : (find bearer_cmp fs x ≡ Some b → is_at (bearer_cmp x) k ≡ false) → (t : Bool) → is_at (bearer_cmp x) f.0 ≡ t
          → cond t (Some f.1) (lookup (is_at (bearer_cmp x)) fs) ≡ Some b → is_at (bearer_cmp x) k ≡ false
      by later true tie h =
          let same : x ≡ f.0 = bearer_exact x f.0 ((Equal-is (bearer_cmp x f.0)).0 tie) in
          let below : bearer_cmp k x ≡ Less = ap (bearer_cmp k) same ∙ all.0 in
          ap is_eq (bearer_total.antisymm x k ∙ ap ordering_reverse below)
      by later false apart h = later h

  -- what a later bearer has is found after the first one
  pub has_later : (e : BearerId × X) (es : List (BearerId × X)) (x : BearerId) → IsSorted bearer_cmp (e ∷ es)
      → has_such test (find bearer_cmp es x) ≡ true → has_such test (find bearer_cmp (e ∷ es) x) ≡ true
  unfolding find
  has_later e es x sorted h =
      let there : (b : X) × (find bearer_cmp es x ≡ Some b) = has_some (find bearer_cmp es x) h in
      ap (λ (t : Bool). has_such test (cond t (Some e.1) (lookup (is_at (bearer_cmp x)) es)))
      (found_after e.0 es x there.0 (sorted_head bearer_cmp e.0 (keys_of es) sorted) there.1) ∙ h

  pub has_first : (e : BearerId × X) (es : List (BearerId × X)) → has_such test (find bearer_cmp (e ∷ es) e.0) ≡ test e.1
  unfolding find
  has_first e es = ap (λ (t : Bool). has_such test (cond t (Some e.1) (lookup (is_at (bearer_cmp e.0)) es))) (ap is_eq (tied_itself bearer_total e.0))

  -- what is found is the first bearer's, or a later one's
  pub has_either : (e : BearerId × X) (es : List (BearerId × X)) (x : BearerId) → has_such test (find bearer_cmp (e ∷ es) x) ≡ true
      → ((e.0 ≡ x) × (test e.1 ≡ true)) ⊎ (has_such test (find bearer_cmp es x) ≡ true)
  unfolding find
  has_either e es x h = by (is_at (bearer_cmp x) e.0) refl h
    where
      by : (t : Bool) → is_at (bearer_cmp x) e.0 ≡ t → has_such test (cond t (Some e.1) (lookup (is_at (bearer_cmp x)) es)) ≡ true
          → ((e.0 ≡ x) × (test e.1 ≡ true)) ⊎ (has_such test (lookup (is_at (bearer_cmp x)) es) ≡ true)
      by true tie k = inl (sym (bearer_exact x e.0 ((Equal-is (bearer_cmp x e.0)).0 tie)), k)
      by false apart k = inr k

pub less : (i j : ℕ) → i + 1 ≤ j → bearer_cmp (record { 0 = i }) (record { 0 = j }) ≡ Less
less i j h = sym (nat_cmp_is i j Less (omega (arith, h)))
