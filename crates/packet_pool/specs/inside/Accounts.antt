-- Internal: the accounts as two tables, what each key may use and what it uses.
use Rattle.std.specs.Prelude.{◌≡◌, ℕ, ◌<◌, ◌≤◌, ◌^◌, List}
use Rattle.std.specs.List.{AllByRecursion, sum}
use Rattle.std.specs.Map.{values_of}
use Rattle.gnb_types.specs.declared.keys.EntityKey.{EntityKey}
use Rattle.gnb_types.specs.Orders.{entity_cmp}
use Rattle.tables.specs.Tables.{map_values, IsSorted}
use Rattle.packet_pool.specs.declared.accounts.Account.{Account}

pub record AccountsState : Type 0 where
  pub quotas : List (EntityKey × ℕ)
  pub used : List (EntityKey × ℕ)

abbrev pub total : List (EntityKey × ℕ) → ℕ
total m = sum (values_of m)

abbrev pub quotas_of : List (EntityKey × Account) → List (EntityKey × ℕ)
quotas_of m = map_values (λ a. a.quota) m

abbrev pub used_of : List (EntityKey × Account) → List (EntityKey × ℕ)
used_of m = map_values (λ a. a.used) m

pub record AreAccounts (m : List (EntityKey × Account)) (reserved : ℕ) : Type 0 where
  pub sorted : IsSorted entity_cmp m
  pub within : AllByRecursion (λ e. e.1.used ≤ e.1.quota) m
  pub together : reserved ≡ total (quotas_of m)
  pub small : reserved < 2 ^ 32
