-- How many references a pool has, after each of its calls.
use Rattle.std.proofs.Common.{◌≡◌, ℕ, suc, ◌+◌, ◌<◌, ◌≤◌, Bool, true, false, cond, not, List, [], ◌∷◌, length, Option, Some, None, refl, ap, subst, arith}
use Rattle.std.specs.Prelude.{IsSome, unwrap_or}
use Rattle.std.specs.Ordering.{nat_cmp, match_ordering, is_eq}
use Rattle.std.specs.declared.cmp.Ordering.{Ordering}
use Rattle.std.specs.declared.cmp.Ordering.TheVariants.{Less, Equal, Greater}
use Rattle.std.specs.List.{filter}
use Rattle.std.proofs.lemmas.List.Sums.{count_by-le-length}
use Rattle.std.specs.Map.{lookup, values_of}
use Rattle.std.specs.BTreeMap.{is_at, insert_entry}
use Rattle.gnb_types.specs.declared.keys.EntityKey.{EntityKey}
use Rattle.gnb_types.specs.Orders.{entity_cmp}
use Rattle.tables.specs.Tables.{find, put, without, at}
use Rattle.gnb_types.proofs.OrderLemmas.{entity_total}
use Rattle.tables.proofs.TableLaws.{find-put-same}
use Rattle.pdcp_defs.specs.pool_defs.Pools.{Stored, PoolState, used, is_of, is_parked, packet_of, reserved, new_pool}

module _ {X : Type 0} where
  -- a new key is one entry more
  pub length_put : (m : List (ℕ × X)) (k : ℕ) (v : X) → find nat_cmp m k ≡ None → length (put nat_cmp m k v) ≡ length m + 1
  unfolding find put
  length_put [] k v none = refl
  length_put (e ∷ es) k v none = by (nat_cmp k e.0) none (length_put es k v)
    where
      by : (o : Ordering) → cond (is_eq o) (Some e.1) (lookup (is_at (nat_cmp k)) es) ≡ None
          → (lookup (is_at (nat_cmp k)) es ≡ None → length (insert_entry nat_cmp es k v) ≡ length es + 1)
          → length (match_ordering o ((k, v) ∷ e ∷ es) ((e.0, v) ∷ es) (e ∷ insert_entry nat_cmp es k v)) ≡ length (e ∷ es) + 1
      by Less none again = omega arith
      by Equal none again = cc
      by Greater none again = let l = again none in omega (arith, l)

  length_filter : (p : ℕ × X → Bool) (m : List (ℕ × X)) → length (filter p m) ≤ length m
  length_filter p [] = omega arith
  length_filter p (e ∷ es) = by (p e) (length_filter p es)
    where
      by : (b : Bool) → length (filter p es) ≤ length es → length (cond b (e ∷ filter p es) (filter p es)) ≤ length (e ∷ es)
      by true l = omega arith
      by false l = omega arith

  -- without a key that is there, at least one entry less
  pub length_without : (m : List (ℕ × X)) (k : ℕ) → IsSome (find nat_cmp m k) → length (without nat_cmp m k) < length m
  unfolding find without
  length_without [] k some = cc
  length_without (e ∷ es) k some = by (is_at (nat_cmp k) e.0) some (length_without es k) (length_filter (λ x. not (is_at (nat_cmp k) x.0)) es)
    where
      by : (b : Bool) → IsSome (cond b (Some e.1) (lookup (is_at (nat_cmp k)) es))
          → (IsSome (lookup (is_at (nat_cmp k)) es) → length (filter (λ x. not (is_at (nat_cmp k) x.0)) es) < length es)
          → length (filter (λ x. not (is_at (nat_cmp k) x.0)) es) ≤ length es
          → length (cond (not b) (e ∷ filter (λ x. not (is_at (nat_cmp k) x.0)) es) (filter (λ x. not (is_at (nat_cmp k) x.0)) es)) < length (e ∷ es)
      by true some again few = omega arith
      by false some again few = let l = again some in omega (arith, l)

-- what a key uses is at most all references
pub used_few : (p : PoolState) (key : EntityKey) → used p key ≤ length p.refs
unfolding used
used_few p key = omega (arith, count_by-le-length (is_of key) (values_of p.refs), values_length p.refs)
  where
    values_length : (m : List (ℕ × Stored)) → length (values_of m) ≡ length m
    values_length [] = refl
    values_length (e ∷ es) = ap (λ n. suc n) (values_length es)

-- a reference that is held is of the pool
pub held_found : (p : PoolState) (r : ℕ) → IsSome (packet_of p r) → IsSome (find nat_cmp p.refs r)
unfolding packet_of
held_found p r held = by (is_parked p r) held
  where
    by : (b : Bool) → IsSome (cond b None (find nat_cmp p.refs r)) → IsSome (find nat_cmp p.refs r)
    by true held = cc
    by false held = held

-- one quota of all blocks fits
pub all_for_one : (p : PoolState) (a b n : ℕ) → p ≡ new_pool a → a ≡ n → b ≡ n → p.blocks < reserved p + b → ⊥
unfolding reserved
all_for_one p a b n is all some more =
    let more_now : a < 0 + b = subst (λ (q : PoolState). q.blocks < reserved q + b) is more in
    absurd (omega arith)

-- the quota of the one key
pub at_here : (key : EntityKey) (n : ℕ) → at entity_cmp 0 (put entity_cmp [] key n) key ≡ n
unfolding at
at_here key n = ap (λ (o : Option ℕ). unwrap_or o 0) (find-put-same entity_total [] key n)
