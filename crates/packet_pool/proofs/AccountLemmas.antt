-- The accounts of keys as two tables: what a change of one account leaves of the quotas, of what is used, and of their sums.
use Rattle.std.proofs.Common.{◌≡◌, ℕ, ◌+◌, ◌-◌, ◌<◌, ◌≤◌, Bool, true, false, cond, not, List, [], ◌∷◌, Option, Some, None, refl, sym, ap, ◌∙◌, subst, arith, add-zero, lit<, ◌^◌}
use Rattle.std.specs.Prelude.{unwrap_or}
use Rattle.std.specs.Ordering.{match_ordering}
use Rattle.std.specs.declared.cmp.Ordering.{Ordering}
use Rattle.std.specs.declared.cmp.Ordering.TheVariants.{Less, Equal, Greater}
use Rattle.std.specs.Option.{option_map}
use Rattle.std.specs.List.{AllByRecursion, filter}
use Rattle.std.specs.Map.{values_of, keys_of, lookup}
use Rattle.std.specs.BTreeMap.{is_at, insert_entry}
use Rattle.std.specs.List.Sorted.{IsStrictlySortedBy}
use Rattle.std.proofs.lemmas.List.Sums.{sum_by-cons}
use Rattle.gnb_types.specs.declared.keys.EntityKey.{EntityKey}
use Rattle.gnb_types.specs.Orders.{entity_cmp}
use Rattle.gnb_types.proofs.OrderLemmas.{entity_total}
use Rattle.tables.specs.Tables.{find, put, without, at, map_values, IsSorted}
use Rattle.tables.proofs.TableLaws.{find-mapped, put-mapped, without-mapped, sum-put, sum-without, sorted-put, sorted-without}
use Rattle.packet_pool.specs.declared.accounts.Account.{Account}
use Rattle.packet_pool.specs.inside.Accounts.{total, quotas_of, used_of, AreAccounts}

-- ---- tables of numbers

same_option : (o : Option ℕ) → option_map (λ x. x) o ≡ o
same_option None = refl
same_option (Some n) = refl

pub total_put : (m : List (EntityKey × ℕ)) (k : EntityKey) (v : ℕ) → IsSorted entity_cmp m
    → total (put entity_cmp m k v) + at entity_cmp 0 m k ≡ total m + v
unfolding at
total_put m k v sorted =
    ap (λ (o : Option ℕ). total (put entity_cmp m k v) + unwrap_or o 0) (sym (same_option (find entity_cmp m k)))
    ∙ sum-put entity_total (λ x. x) m k v sorted

pub total_without : (m : List (EntityKey × ℕ)) (k : EntityKey) → IsSorted entity_cmp m
    → total (without entity_cmp m k) + at entity_cmp 0 m k ≡ total m
unfolding at
total_without m k sorted =
    ap (λ (o : Option ℕ). total (without entity_cmp m k) + unwrap_or o 0) (sym (same_option (find entity_cmp m k)))
    ∙ sum-without entity_total (λ x. x) m k sorted

-- ---- what the accounts say of a key

module _ (f : Account → ℕ) (m : List (EntityKey × Account)) (k : EntityKey) where
  pub at_found : (a : Account) → find entity_cmp m k ≡ Some a → at entity_cmp 0 (map_values f m) k ≡ f a
  unfolding at
  at_found a found = ap (λ (o : Option ℕ). unwrap_or o 0) (find-mapped entity_cmp f m k ∙ ap (option_map f) found)

  pub at_none : find entity_cmp m k ≡ None → at entity_cmp 0 (map_values f m) k ≡ 0
  unfolding at
  at_none none = ap (λ (o : Option ℕ). unwrap_or o 0) (find-mapped entity_cmp f m k ∙ ap (option_map f) none)

  pub none_mapped : find entity_cmp (map_values f m) k ≡ None → find entity_cmp m k ≡ None
  none_mapped none = by (find entity_cmp m k) refl (sym (find-mapped entity_cmp f m k) ∙ none)
    where
      by : (o : Option Account) → find entity_cmp m k ≡ o → option_map f o ≡ None → o ≡ None
      by None is h = refl
      by (Some a) is h = cc

  -- an account that says the same
  pub put_alike : (old new : Account) → put entity_cmp m k old ≡ m → f new ≡ f old → map_values f (put entity_cmp m k new) ≡ map_values f m
  put_alike old new same alike =
      sym (put-mapped entity_cmp f m k new) ∙ ap (put entity_cmp (map_values f m) k) alike
      ∙ put-mapped entity_cmp f m k old ∙ ap (map_values f) same

keys_mapped : {Y : Type 0} (f : Account → Y) (m : List (EntityKey × Account)) → keys_of (map_values f m) ≡ keys_of m
unfolding map_values
keys_mapped f [] = refl
keys_mapped f (e ∷ es) = ap (λ (ks : List EntityKey). e.0 ∷ ks) (keys_mapped f es)

pub sorted_mapped : (f : Account → ℕ) (m : List (EntityKey × Account)) → IsSorted entity_cmp m → IsSorted entity_cmp (map_values f m)
sorted_mapped f m sorted = subst (IsStrictlySortedBy entity_cmp) (sym (keys_mapped f m)) sorted

-- ---- of each account

module _ (P : Account → Type 0) (k : EntityKey) where
  pub all_put : (m : List (EntityKey × Account)) (a : Account) → AllByRecursion (λ e. P e.1) m → P a
      → AllByRecursion (λ e. P e.1) (put entity_cmp m k a)
  unfolding put
  all_put [] a all here = (here, tt)
  all_put (e ∷ es) a all here = by (entity_cmp k e.0) (all_put es a all.1 here)
    where
      by : (r : Ordering) → AllByRecursion (λ e. P e.1) (insert_entry entity_cmp es k a)
          → AllByRecursion (λ e. P e.1) (match_ordering r ((k, a) ∷ e ∷ es) ((e.0, a) ∷ es) (e ∷ insert_entry entity_cmp es k a))
      by Less rest = (here, all)
      by Equal rest = (here, all.1)
      by Greater rest = (all.0, rest)

  pub all_found : (m : List (EntityKey × Account)) (a : Account) → AllByRecursion (λ e. P e.1) m → find entity_cmp m k ≡ Some a → P a
  unfolding find
  all_found [] a all found = cc
  all_found (e ∷ es) a all found = by (is_at (entity_cmp k) e.0) found (all_found es a all.1)
    where
      by : (b : Bool) → cond b (Some e.1) (lookup (is_at (entity_cmp k)) es) ≡ Some a
          → (lookup (is_at (entity_cmp k)) es ≡ Some a → P a) → P a
      by true found again = let here : e.1 ≡ a = cc in subst P here all.0
      by false found again = again found

  pub all_without : (m : List (EntityKey × Account)) → AllByRecursion (λ e. P e.1) m → AllByRecursion (λ e. P e.1) (without entity_cmp m k)
  unfolding without
  all_without [] all = tt
  all_without (e ∷ es) all = by (is_at (entity_cmp k) e.0) (all_without es all.1)
    where
      by : (b : Bool) → AllByRecursion (λ e. P e.1) (filter (λ x. not (is_at (entity_cmp k) x.0)) es)
          → AllByRecursion (λ e. P e.1) (cond (not b) (e ∷ filter (λ x. not (is_at (entity_cmp k) x.0)) es) (filter (λ x. not (is_at (entity_cmp k) x.0)) es))
      by true rest = rest
      by false rest = (all.0, rest)

-- ---- what is used is at most the quotas

total_cons : (k : EntityKey) (n : ℕ) (m : List (EntityKey × ℕ)) → total ((k, n) ∷ m) ≡ n + total m
total_cons k n m = sum_by-cons (λ x. x) n (values_of m)

pub used_within : (m : List (EntityKey × Account)) → AllByRecursion (λ e. e.1.used ≤ e.1.quota) m → total (used_of m) ≤ total (quotas_of m)
unfolding map_values
used_within [] all = omega arith
used_within (e ∷ es) all =
    omega (arith, total_cons e.0 e.1.used (used_of es), total_cons e.0 e.1.quota (quotas_of es), used_within es all.1, all.0)

pub used_below : (m : List (EntityKey × Account)) (k : EntityKey) (a : Account) → AllByRecursion (λ e. e.1.used ≤ e.1.quota) m
    → find entity_cmp m k ≡ Some a → a.used < a.quota → total (used_of m) < total (quotas_of m)
unfolding find map_values
used_below [] k a all found below = cc
used_below (e ∷ es) k a all found below =
    by (is_at (entity_cmp k) e.0) found (used_within es all.1) (λ later. used_below es k a all.1 later below)
    (total_cons e.0 e.1.used (used_of es)) (total_cons e.0 e.1.quota (quotas_of es))
  where
    by : (b : Bool) → cond b (Some e.1) (lookup (is_at (entity_cmp k)) es) ≡ Some a
        → total (used_of es) ≤ total (quotas_of es)
        → (lookup (is_at (entity_cmp k)) es ≡ Some a → total (used_of es) < total (quotas_of es))
        → total ((e.0, e.1.used) ∷ used_of es) ≡ e.1.used + total (used_of es)
        → total ((e.0, e.1.quota) ∷ quotas_of es) ≡ e.1.quota + total (quotas_of es)
        → total ((e.0, e.1.used) ∷ used_of es) < total ((e.0, e.1.quota) ∷ quotas_of es)
    by true found within again u q =
        let here : e.1 ≡ a = cc in
        let low : e.1.used < e.1.quota = subst (λ (b : Account). b.used < b.quota) (sym here) below in
        omega (arith, u, q, low, within)
    by false found within again u q = omega (arith, u, q, again found, all.0)

-- ---- the changes

-- an account in the place of another, with the same quota
pub accounts_replaced : (m : List (EntityKey × Account)) (r : ℕ) (k : EntityKey) (old new : Account) → AreAccounts m r
    → put entity_cmp m k old ≡ m → new.quota ≡ old.quota → new.used ≤ new.quota → AreAccounts (put entity_cmp m k new) r
accounts_replaced m r k old new accounts same alike within =
    record {
      sorted = sorted-put entity_total m k new accounts.sorted;
      within = all_put (λ a. a.used ≤ a.quota) k m new accounts.within within;
      together = accounts.together ∙ ap total (sym (put_alike (λ a. a.quota) m k old new same alike));
      small = accounts.small;
    }

pub used_replaced : (m : List (EntityKey × Account)) (k : EntityKey) (new : Account) (r : ℕ) → AreAccounts m r
    → total (used_of (put entity_cmp m k new)) + at entity_cmp 0 (used_of m) k ≡ total (used_of m) + new.used
used_replaced m k new r accounts =
    ap (λ (t : List (EntityKey × ℕ)). total t + at entity_cmp 0 (used_of m) k) (sym (put-mapped entity_cmp (λ a. a.used) m k new))
    ∙ total_put (used_of m) k new.used (sorted_mapped (λ a. a.used) m accounts.sorted)

-- an account is opened
pub accounts_opened : (m : List (EntityKey × Account)) (r : ℕ) (k : EntityKey) (new : Account) → AreAccounts m r
    → find entity_cmp m k ≡ None → new.used ≤ new.quota → r + new.quota < 2 ^ 32 → AreAccounts (put entity_cmp m k new) (r + new.quota)
accounts_opened m r k new accounts none within small =
    let sums : total (quotas_of (put entity_cmp m k new)) + at entity_cmp 0 (quotas_of m) k ≡ total (quotas_of m) + new.quota =
    ap (λ (t : List (EntityKey × ℕ)). total t + at entity_cmp 0 (quotas_of m) k) (sym (put-mapped entity_cmp (λ a. a.quota) m k new))
    ∙ total_put (quotas_of m) k new.quota (sorted_mapped (λ a. a.quota) m accounts.sorted) in
    let nothing : at entity_cmp 0 (quotas_of m) k ≡ 0 = at_none (λ a. a.quota) m k none in
    let all : total (quotas_of (put entity_cmp m k new)) ≡ total (quotas_of m) + new.quota =
    sym (add-zero _) ∙ ap (λ (n : ℕ). total (quotas_of (put entity_cmp m k new)) + n) (sym nothing) ∙ sums in
    record {
      sorted = sorted-put entity_total m k new accounts.sorted;
      within = all_put (λ a. a.used ≤ a.quota) k m new accounts.within within;
      together = ap (λ (n : ℕ). n + new.quota) accounts.together ∙ sym all;
      small = small;
    }

-- an account is closed
pub closed_total : (m : List (EntityKey × Account)) (k : EntityKey) (a : Account) → IsSorted entity_cmp m → find entity_cmp m k ≡ Some a
    → total (quotas_of (without entity_cmp m k)) + a.quota ≡ total (quotas_of m)
closed_total m k a sorted found =
    ap (λ (t : List (EntityKey × ℕ)). total t + a.quota) (sym (without-mapped entity_cmp (λ a. a.quota) m k))
    ∙ ap (λ (n : ℕ). total (without entity_cmp (quotas_of m) k) + n) (sym (at_found (λ a. a.quota) m k a found))
    ∙ total_without (quotas_of m) k (sorted_mapped (λ a. a.quota) m sorted)

pub accounts_closed : (m : List (EntityKey × Account)) (r : ℕ) (k : EntityKey) (a : Account) → AreAccounts m r
    → find entity_cmp m k ≡ Some a → AreAccounts (without entity_cmp m k) (r - a.quota)
accounts_closed m r k a accounts found =
    record {
      sorted = sorted-without entity_total m k accounts.sorted;
      within = all_without (λ a. a.used ≤ a.quota) k m accounts.within;
      together = omega (arith, accounts.together, closed_total m k a accounts.sorted found);
      small = omega (arith, accounts.small);
    }

pub accounts_none : AreAccounts [] 0
unfolding map_values IsStrictlySortedBy
accounts_none = record { sorted = tt; within = tt; together = refl; small = lit< tt }

pub used_none : (f : Account → ℕ) (m : List (EntityKey × Account)) → m ≡ [] → map_values f m ≡ []
unfolding map_values
used_none f m none = ap (map_values f) none

-- a quota is at most the sum
pub quota_small : (m : List (EntityKey × Account)) (r : ℕ) (k : EntityKey) (a : Account) → AreAccounts m r → find entity_cmp m k ≡ Some a
    → a.quota < 2 ^ 32
quota_small m r k a accounts found = omega (arith, closed_total m k a accounts.sorted found, accounts.together, accounts.small)

pub quota_reserved : (m : List (EntityKey × Account)) (r : ℕ) (k : EntityKey) (a : Account) → AreAccounts m r → find entity_cmp m k ≡ Some a
    → a.quota ≤ r
quota_reserved m r k a accounts found = omega (arith, closed_total m k a accounts.sorted found, accounts.together)

pub opened_total : (m : List (EntityKey × Account)) (r : ℕ) (f : Account → ℕ) (k : EntityKey) (new : Account) → AreAccounts m r
    → find entity_cmp m k ≡ None → total (map_values f (put entity_cmp m k new)) ≡ total (map_values f m) + f new
opened_total m r f k new accounts none =
    let sums : total (map_values f (put entity_cmp m k new)) + at entity_cmp 0 (map_values f m) k ≡ total (map_values f m) + f new =
    ap (λ (t : List (EntityKey × ℕ)). total t + at entity_cmp 0 (map_values f m) k) (sym (put-mapped entity_cmp f m k new))
    ∙ total_put (map_values f m) k (f new) (sorted_mapped f m accounts.sorted) in
    omega (arith, sums, at_none f m k none)

pub quotas_sorted : (m : List (EntityKey × Account)) (r : ℕ) → AreAccounts m r → IsSorted entity_cmp (quotas_of m)
quotas_sorted m r accounts = sorted_mapped (λ a. a.quota) m accounts.sorted

pub released_total : (m : List (EntityKey × Account)) (r : ℕ) (f : Account → ℕ) (k : EntityKey) → AreAccounts m r
    → total (map_values f (without entity_cmp m k)) + at entity_cmp 0 (map_values f m) k ≡ total (map_values f m)
released_total m r f k accounts =
    ap (λ (t : List (EntityKey × ℕ)). total t + at entity_cmp 0 (map_values f m) k) (sym (without-mapped entity_cmp f m k))
    ∙ total_without (map_values f m) k (sorted_mapped f m accounts.sorted)
