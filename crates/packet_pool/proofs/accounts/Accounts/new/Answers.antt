use Rattle.std.proofs.Common.{sym, subst, List}
use Rattle.gnb_types.specs.declared.keys.EntityKey.{EntityKey}
use Rattle.packet_pool.specs.declared.accounts.Account.{Account}
use Rattle.packet_pool.specs.inside.Accounts.{AreAccounts}
use Rattle.packet_pool.proofs.AccountLemmas.{accounts_none, used_none}
use Rattle.packet_pool.proofs.accounts.Accounts.new.Goals as goal

pub invariant_of-result : goal.invariant_of-result
invariant_of-result c = subst (λ (m : List (EntityKey × Account)). AreAccounts m 0) (sym c.new.ensures) accounts_none

pub returns-clause-quotas : goal.returns-clause-quotas
returns-clause-quotas c = used_none (λ a. a.quota) _ c.new.ensures

pub returns-clause-used : goal.returns-clause-used
returns-clause-used c = used_none (λ a. a.used) _ c.new.ensures
