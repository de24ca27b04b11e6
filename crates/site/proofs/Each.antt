-- What is so of each value of a table, and a part of each.
use Rattle.std.proofs.Common.{◌≡◌, Bool, true, false, cond, List, [], ◌∷◌, Option, Some, None, refl, sym, ap, ◌∙◌, subst}
use Rattle.std.specs.Borrow.{Bor}
use Rattle.std.specs.Map.{keys_of}
use Rattle.std.specs.Prelude.{unwrap_or, option_copied, Result, Ok, Err, IfOk}
use Rattle.std.specs.Option.{option_map}
use Rattle.std.specs.declared.cmp.Ordering.{Ordering}
use Rattle.std.specs.Ordering.{eq_by_cmp}
use Rattle.std.specs.Cmp.{IsTotalOrder}
use Rattle.tables.specs.Tables.{find, put, at, map_values}
use Rattle.tables.proofs.TableLaws.{find-put, find-mapped}
use Rattle.site.specs.Each.{EachIs}

-- ---- what is so of each

module _ {K X : Type 0} (R : K → K → Ordering) (P : X → Type 0) where
  pub at_each : (m : List (K × X)) (d : X) (k : K) → EachIs R P m → P d → P (at R d m k)
  unfolding at
  at_each m d k all is = by (find R m k) refl
    where
      by : (o : Option X) → find R m k ≡ o → P (unwrap_or o d)
      by None h = is
      by (Some x) h = all k x h

  pub put_each : IsTotalOrder R → (m : List (K × X)) (k : K) (v : X) → EachIs R P m → P v → EachIs R P (put R m k v)
  put_each o m k v all is q x h = by (eq_by_cmp R q k) (sym (find-put o m k v q) ∙ h)
    where
      by : (b : Bool) → cond b (Some v) (find R m q) ≡ Some x → P x
      by true there = let same : v ≡ x = cc in subst P same is
      by false there = all q x there

  pub mapped_each : (f : X → X) → ((x : X) → P x → P (f x)) → (m : List (K × X)) → EachIs R P m → EachIs R P (map_values f m)
  mapped_each f keeps m all k x h = by (find R m k) refl (sym (find-mapped R f m k) ∙ h)
    where
      by : (o : Option X) → find R m k ≡ o → option_map f o ≡ Some x → P x
      by None there is = absurd cc
      by (Some y) there is = let same : f y ≡ x = cc in subst P same (keeps y (all k y there))

-- ---- a part of each

module _ {K X Y : Type 0} (R : K → K → Ordering) (f : X → Y) where
  pub at_mapped : (m : List (K × X)) (d : X) (k : K) → at R (f d) (map_values f m) k ≡ f (at R d m k)
  unfolding at
  at_mapped m d k = ap (λ (o : Option Y). unwrap_or o (f d)) (find-mapped R f m k) ∙ by (find R m k)
    where
      by : (o : Option X) → unwrap_or (option_map f o) (f d) ≡ f (unwrap_or o d)
      by None = refl
      by (Some x) = refl

  -- what is behind a reference to the value at a key
  pub looked_up : (m : List (K × X)) (k : K) (o : Option (Bor X)) → option_copied o ≡ find R m k
      → option_map (λ x. f x.now) o ≡ find R (map_values f m) k
  looked_up m k o is = by o ∙ ap (λ (p : Option X). option_map f p) is ∙ sym (find-mapped R f m k)
    where
      by : (p : Option (Bor X)) → option_map (λ x. f x.now) p ≡ option_map f (option_copied p)
      by None = refl
      by (Some x) = refl

-- ---- the keys

keys_mapped : {K X Y : Type 0} (f : X → Y) (m : List (K × X)) → keys_of (map_values f m) ≡ keys_of m
unfolding map_values
keys_mapped f [] = refl
keys_mapped f (e ∷ es) = ap (λ ks. e.0 ∷ ks) (keys_mapped f es)

pub keys_seen : {K X Y E : Type 0} (f : X → Y) (m : List (K × X)) (result : Result (List K) E) → IfOk result (λ ks. ks ≡ keys_of m)
    → IfOk result (λ ks. ks ≡ keys_of (map_values f m))
keys_seen f m (Ok ks) is = is ∙ sym (keys_mapped f m)
keys_seen f m (Err error) is = tt
