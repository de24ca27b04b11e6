-- Look-ups at keys that tie, and what a put makes of a value.
use Rattle.std.proofs.Common.{◌≡◌, Bool, true, false, cond, List, [], ◌∷◌, Option, Some, None, refl, ap, sym, ◌∙◌}
use Rattle.std.specs.Prelude.{unwrap_or}
use Rattle.std.specs.declared.cmp.Ordering.{Ordering}
use Rattle.std.specs.declared.cmp.Ordering.TheVariants.{Equal}
use Rattle.std.specs.Ordering.{eq_by_cmp, is_eq}
use Rattle.std.specs.Cmp.{IsTotalOrder, Equal-is}
use Rattle.std.specs.Map.{lookup}
use Rattle.std.specs.BTreeMap.{is_at}
use Rattle.tables.specs.Tables.{find, put, at}
use Rattle.tables.proofs.TableLaws.{at-put}

pub at_none : {K X : Type 0} (R : K → K → Ordering) (d : X) (m : List (K × X)) (k : K) → find R m k ≡ None → at R d m k ≡ d
unfolding at
at_none {X = X} R d m k none = ap (λ (x : Option X). unwrap_or x d) none

pub at_some : {K X : Type 0} (R : K → K → Ordering) (d : X) (m : List (K × X)) (k : K) (v : X) → find R m k ≡ Some v → at R d m k ≡ v
unfolding at
at_some {X = X} R d m k v some = ap (λ (x : Option X). unwrap_or x d) some

module _ {K X : Type 0} {R : K → K → Ordering} (o : IsTotalOrder R) where
  -- keys that tie find the same
  pub find_tied : (m : List (K × X)) (q k : K) → R q k ≡ Equal → find R m q ≡ find R m k
  unfolding find
  find_tied [] q k tie = refl
  find_tied (e ∷ es) q k tie =
      ap (λ (r : Ordering). cond (is_eq r) (Some e.1) (lookup (is_at (R q)) es)) (o.congr q k e.0 tie)
      ∙ ap (λ (x : Option X). cond (is_at (R k) e.0) (Some e.1) x) (find_tied es q k tie)

  pub at_tied : (d : X) (m : List (K × X)) (q k : K) → eq_by_cmp R q k ≡ true → at R d m q ≡ at R d m k
  unfolding at
  at_tied d m q k tie = ap (λ (x : Option X). unwrap_or x d) (find_tied m q k ((Equal-is (R q k)).0 tie))

  put_one : (f : X → X) (d : X) (m : List (K × X)) (k : K) (v : X) → v ≡ f (at R d m k) → (q : K) (b : Bool) → eq_by_cmp R q k ≡ b
      → cond b v (at R d m q) ≡ cond b (f (at R d m q)) (at R d m q)
  put_one f d m k v is q true tie = is ∙ ap f (sym (at_tied d m q k tie))
  put_one f d m k v is q false tie = refl

  -- the value at one key becomes f of what it was
  pub put_changes : (f : X → X) (d : X) (m : List (K × X)) (k : K) (v : X) → v ≡ f (at R d m k) → (q : K)
      → at R d (put R m k v) q ≡ cond (eq_by_cmp R q k) (f (at R d m q)) (at R d m q)
  put_changes f d m k v is q = at-put o d m k v q ∙ put_one f d m k v is q (eq_by_cmp R q k) refl

  none_one : (f : X → X) (d : X) (m : List (K × X)) (k : K) → find R m k ≡ None → f d ≡ d → (q : K) (b : Bool) → eq_by_cmp R q k ≡ b
      → at R d m q ≡ cond b (f (at R d m q)) (at R d m q)
  none_one f d m k none same q true tie =
      let empty : at R d m q ≡ d = at_tied d m q k tie ∙ at_none R d m k none in
      empty ∙ sym same ∙ ap f (sym empty)
  none_one f d m k none same q false tie = refl

  -- where the key has no value, and f leaves the default as it is, nothing changes
  pub none_changes : (f : X → X) (d : X) (m : List (K × X)) (k : K) → find R m k ≡ None → f d ≡ d → (q : K)
      → at R d m q ≡ cond (eq_by_cmp R q k) (f (at R d m q)) (at R d m q)
  none_changes f d m k none same q = none_one f d m k none same q (eq_by_cmp R q k) refl
