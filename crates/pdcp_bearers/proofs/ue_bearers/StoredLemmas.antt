-- What a downlink stores: its COUNTs ascend, and its packets are all that its pool has.
use Rattle.std.proofs.Common.{◌≡◌, ℕ, ◌+◌, ◌<◌, ◌≤◌, Bool, true, false, cond, List, [], ◌∷◌, length, drop, Option, Some, None, refl, arith}
use Rattle.std.specs.Prelude.{IsSome}
use Rattle.std.specs.List.{AllByRecursion}
use Rattle.std.specs.Ordering.{nat_cmp, eq_by_cmp, match_ordering, MatchOrdering}
use Rattle.std.specs.Cmp.{ranks}
use Rattle.std.specs.declared.cmp.Ordering.{Ordering}
use Rattle.std.specs.declared.cmp.Ordering.TheVariants.{Less, Equal, Greater}
use Rattle.std.specs.BTreeMap.{insert_entry}
use Rattle.gnb_types.specs.declared.keys.EntityKey.{EntityKey}
use Rattle.gnb_types.specs.Orders.{entity_cmp}
use Rattle.tables.specs.Tables.{put, without}
use Rattle.pdcp_defs.specs.pool_defs.Pools.{Stored, PoolState, used, packet_of, without_packet, IsPool}
use Rattle.pdcp_defs.proofs.pool_defs.PoolLaws.{used_take}
use Rattle.pdcp_bearers.specs.ue_bearers.inside.Views.{IsAscending}
use Rattle.pdcp_bearers.proofs.ue_bearers.RefLemmas.{length_without, held_found, used_few}

-- ---- a packet more, or the first one out

module _ {X : Type 0} (P : ℕ × X → Type 0) where
  -- what holds of every entry holds of a new one, whichever key it is put under
  pub all_put : (es : List (ℕ × X)) (k : ℕ) (v : X) → AllByRecursion P es → ((key : ℕ) → nat_cmp k key ≡ Equal → P (key, v)) → P (k, v)
      → AllByRecursion P (put nat_cmp es k v)
  unfolding put
  all_put [] k v all same here = (here, tt)
  all_put (e ∷ es) k v all same here = by (nat_cmp k e.0) refl (all_put es k v all.1 same here)
    where
      by : (o : Ordering) → nat_cmp k e.0 ≡ o → AllByRecursion P (insert_entry nat_cmp es k v)
          → AllByRecursion P (match_ordering o ((k, v) ∷ e ∷ es) ((e.0, v) ∷ es) (e ∷ insert_entry nat_cmp es k v))
      by Less is rest = (here, all)
      by Equal is rest = (same e.0 is, all.1)
      by Greater is rest = (all.0, rest)

  pub all_dropped : (es : List (ℕ × X)) → AllByRecursion P es → AllByRecursion P (drop 1 es)
  all_dropped [] all = tt
  all_dropped (e ∷ es) all = all.1

pub ascending_dropped : (es : List (ℕ × ℕ)) → IsAscending es → IsAscending (drop 1 es)
ascending_dropped [] up = tt
ascending_dropped (e ∷ es) up = up.1

pub equal_is : (a b : ℕ) → nat_cmp a b ≡ Equal → a ≡ b
equal_is a b e = by (nat_cmp a b) (ranks a b) e
  where
    by : (r : Ordering) → MatchOrdering r (a < b) (a ≡ b) (b < a) → r ≡ Equal → a ≡ b
    by Less is h = cc
    by Equal is h = is
    by Greater is h = cc

less_is : (a b : ℕ) → nat_cmp a b ≡ Less → a < b
less_is a b e = by (nat_cmp a b) (ranks a b) e
  where
    by : (r : Ordering) → MatchOrdering r (a < b) (a ≡ b) (b < a) → r ≡ Less → a < b
    by Less is h = is
    by Equal is h = absurd cc
    by Greater is h = absurd cc

greater_is : (a b : ℕ) → nat_cmp a b ≡ Greater → b < a
greater_is a b e = by (nat_cmp a b) (ranks a b) e
  where
    by : (r : Ordering) → MatchOrdering r (a < b) (a ≡ b) (b < a) → r ≡ Greater → b < a
    by Less is h = absurd cc
    by Equal is h = absurd cc
    by Greater is h = is

above_more : (low k : ℕ) → low < k → (es : List (ℕ × ℕ)) → AllByRecursion (λ x. k < x.0) es → AllByRecursion (λ x. low < x.0) es
above_more low k l [] all = tt
above_more low k l (e ∷ es) all = let above : k < e.0 = all.0 in (omega (arith, l, above), above_more low k l es all.1)

pub ascending_put : (es : List (ℕ × ℕ)) (k v : ℕ) → IsAscending es → IsAscending (put nat_cmp es k v)
unfolding put
ascending_put [] k v up = (tt, tt)
ascending_put (e ∷ es) k v up = by (nat_cmp k e.0) refl (ascending_put es k v up.1)
  where
    by : (o : Ordering) → nat_cmp k e.0 ≡ o → IsAscending (insert_entry nat_cmp es k v)
        → IsAscending (match_ordering o ((k, v) ∷ e ∷ es) ((e.0, v) ∷ es) (e ∷ insert_entry nat_cmp es k v))
    by Less is rest = let l = less_is k e.0 is in ((l, above_more k e.0 l es up.0), up)
    by Equal is rest = up
    by Greater is rest =
        let l = greater_is k e.0 is in
        (all_put (λ x. e.0 < x.0) es k v up.0 (λ key same. let s = equal_is k key same in omega (arith, l, s)) l, rest)

-- ---- the pool is its own: each reference is counted under the one key

pub own_spent : (q : PoolState) (r : ℕ) (key : EntityKey) → IsPool 2048 q → IsSome (packet_of q r) → used q key ≡ length q.refs
    → used (without_packet q r) key ≡ length (without nat_cmp q.refs r)
own_spent q r key sound given own = by (packet_of q r) refl given
  where
    by : (o : Option Stored) → packet_of q r ≡ o → IsSome o → used (without_packet q r) key ≡ length (without nat_cmp q.refs r)
    by None is some = cc
    by (Some x) is some = one (eq_by_cmp entity_cmp x.key key) (used_take q r 2048 sound x key is)
      where
        less : length (without nat_cmp q.refs r) < length q.refs
        less = length_without q.refs r (held_found q r given)

        one : (b : Bool) → used (without_packet q r) key + cond b 1 0 ≡ used q key → used (without_packet q r) key ≡ length (without nat_cmp q.refs r)
        one true same = let few : used (without_packet q r) key ≤ length (without nat_cmp q.refs r) = used_few (without_packet q r) key in omega (arith, same, own, less, few)
        one false same = let few : used (without_packet q r) key ≤ length (without nat_cmp q.refs r) = used_few (without_packet q r) key in omega (arith, same, own, less, few)
