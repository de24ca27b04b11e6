use Rattle.std.proofs.Common.{◌≡◌, ◌+◌, List, None, sym, ap, ◌∙◌, subst, add-zero, arith}
use Rattle.gnb_types.specs.declared.keys.EntityKey.{EntityKey}
use Rattle.gnb_types.specs.Orders.{entity_cmp}
use Rattle.tables.specs.Tables.{find, put}
use Rattle.tables.proofs.TableLaws.{put-mapped}
use Rattle.packet_pool.specs.declared.accounts.Account.{Account}
use Rattle.packet_pool.specs.inside.Accounts.{AccountsState, AreAccounts, total, used_of, quotas_of}
use Rattle.packet_pool.proofs.AccountLemmas.{none_mapped, accounts_opened, opened_total, quotas_sorted}
use Rattle.packet_pool.proofs.accounts.Accounts.reserve.Goals as goal

pub invariant_of-self-2 : goal.invariant_of-self-2
invariant_of-self-2 c =
    let none : find entity_cmp c.self.inside.table c.args.key ≡ None =
    none_mapped (λ a. a.quota) _ _ (subst (λ (s : AccountsState). find entity_cmp s.quotas c.args.key ≡ None) (sym c.self.view_is) c.requires.absent) in
    subst (λ (m : List (EntityKey × Account)). AreAccounts m (c.self.inside.reserved + c.args.n)) (sym c.in_ok-put.ensures.ok)
    (accounts_opened _ _ _ _ c.self.invariant none (omega arith) (omega (arith, c.ranges.blocks)))

pub returns-clause-quotas : goal.returns-clause-quotas
returns-clause-quotas c =
    ap quotas_of c.in_ok-put.ensures.ok ∙ sym (put-mapped entity_cmp (λ (a : Account). a.quota) _ _ _)
    ∙ ap (λ (s : AccountsState). put entity_cmp s.quotas c.args.key c.args.n) c.self.view_is

pub returns-clause-used : goal.returns-clause-used
returns-clause-used c =
    ap used_of c.in_ok-put.ensures.ok ∙ sym (put-mapped entity_cmp (λ (a : Account). a.used) _ _ _)
    ∙ ap (λ (s : AccountsState). put entity_cmp s.used c.args.key 0) c.self.view_is

pub returns-clause-sorted : goal.returns-clause-sorted
returns-clause-sorted c =
    let none : find entity_cmp c.self.inside.table c.args.key ≡ None =
    none_mapped (λ a. a.quota) _ _ (subst (λ (s : AccountsState). find entity_cmp s.quotas c.args.key ≡ None) (sym c.self.view_is) c.requires.absent) in
    quotas_sorted _ _ (subst (λ (m : List (EntityKey × Account)). AreAccounts m (c.self.inside.reserved + c.args.n)) (sym c.in_ok-put.ensures.ok)
    (accounts_opened _ _ _ _ c.self.invariant none (omega arith) (omega (arith, c.ranges.blocks))))

pub returns-clause-whole : goal.returns-clause-whole
returns-clause-whole c =
    let none : find entity_cmp c.self.inside.table c.args.key ≡ None =
    none_mapped (λ a. a.quota) _ _ (subst (λ (s : AccountsState). find entity_cmp s.quotas c.args.key ≡ None) (sym c.self.view_is) c.requires.absent) in
    ap (λ (m : List (EntityKey × Account)). total (quotas_of m)) c.in_ok-put.ensures.ok
    ∙ opened_total _ _ (λ a. a.quota) _ _ c.self.invariant none
    ∙ ap (λ (s : AccountsState). total s.quotas + c.args.n) c.self.view_is

pub returns-clause-same : goal.returns-clause-same
returns-clause-same c =
    let none : find entity_cmp c.self.inside.table c.args.key ≡ None =
    none_mapped (λ a. a.quota) _ _ (subst (λ (s : AccountsState). find entity_cmp s.quotas c.args.key ≡ None) (sym c.self.view_is) c.requires.absent) in
    ap (λ (m : List (EntityKey × Account)). total (used_of m)) c.in_ok-put.ensures.ok
    ∙ opened_total _ _ (λ a. a.used) _ _ c.self.invariant none ∙ add-zero _
    ∙ ap (λ (s : AccountsState). total s.used) c.self.view_is
