use Rattle.std.proofs.Common.{sym, ap, ◌∙◌}
use Rattle.gnb_types.specs.Orders.{entity_cmp}
use Rattle.tables.specs.Tables.{at}
use Rattle.packet_pool.specs.inside.Accounts.{AccountsState}
use Rattle.packet_pool.proofs.AccountLemmas.{at_found, at_none}
use Rattle.packet_pool.proofs.accounts.Accounts.quota.Goals as goal

pub returns-in-Some : goal.returns-in-Some
returns-in-Some c =
    sym (at_found (λ a. a.quota) _ _ _ (sym c.in-Some.ensures)) ∙ ap (λ (s : AccountsState). at entity_cmp 0 s.quotas c.args.key.now) c.self.view_is

pub returns-in-None : goal.returns-in-None
returns-in-None c =
    sym (at_none (λ a. a.quota) _ _ (sym c.in-None.ensures)) ∙ ap (λ (s : AccountsState). at entity_cmp 0 s.quotas c.args.key.now) c.self.view_is
