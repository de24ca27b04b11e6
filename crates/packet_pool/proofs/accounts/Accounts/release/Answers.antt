use Rattle.std.proofs.Common.{◌≡◌, ◌≤◌, ◌+◌, ◌-◌, List, sym, ap, ◌∙◌, subst, arith}
use Rattle.gnb_types.specs.declared.keys.EntityKey.{EntityKey}
use Rattle.gnb_types.specs.Orders.{entity_cmp}
use Rattle.gnb_types.proofs.OrderLemmas.{entity_total}
use Rattle.tables.specs.Tables.{without, at, IsSorted}
use Rattle.tables.proofs.TableLaws.{without-mapped, sorted-without}
use Rattle.packet_pool.specs.declared.accounts.Account.{Account}
use Rattle.packet_pool.specs.inside.Accounts.{AccountsState, AreAccounts, total, used_of, quotas_of}
use Rattle.packet_pool.proofs.AccountLemmas.{accounts_closed, quota_reserved, released_total, quotas_sorted}
use Rattle.packet_pool.proofs.accounts.Accounts.release.Goals as goal

pub returns-in_default-clause-quotas : goal.returns-in_default-clause-quotas
returns-in_default-clause-quotas c =
    ap quotas_of c.in_default.ensures.rest ∙ sym (without-mapped entity_cmp (λ (a : Account). a.quota) _ _)
    ∙ ap (λ (s : AccountsState). without entity_cmp s.quotas c.args.key.now) c.self.view_is

pub returns-in_default-clause-used : goal.returns-in_default-clause-used
returns-in_default-clause-used c =
    ap used_of c.in_default.ensures.rest ∙ sym (without-mapped entity_cmp (λ (a : Account). a.used) _ _)
    ∙ ap (λ (s : AccountsState). without entity_cmp s.used c.args.key.now) c.self.view_is

pub overflow_sub-self : goal.overflow_sub-self
overflow_sub-self c = quota_reserved _ _ _ _ c.self.invariant (sym c.in-Some.ensures.value)

pub invariant_of-self-2 : goal.invariant_of-self-2
invariant_of-self-2 c =
    subst (λ (m : List (EntityKey × Account)). AreAccounts m (c.self.inside.reserved - c.in-Some.account.quota)) (sym c.in-Some.ensures.rest)
    (accounts_closed _ _ _ _ c.self.invariant (sym c.in-Some.ensures.value))

pub returns-clause-quotas : goal.returns-clause-quotas
returns-clause-quotas c =
    ap quotas_of c.in-Some.ensures.rest ∙ sym (without-mapped entity_cmp (λ (a : Account). a.quota) _ _)
    ∙ ap (λ (s : AccountsState). without entity_cmp s.quotas c.args.key.now) c.self.view_is

pub returns-clause-used : goal.returns-clause-used
returns-clause-used c =
    ap used_of c.in-Some.ensures.rest ∙ sym (without-mapped entity_cmp (λ (a : Account). a.used) _ _)
    ∙ ap (λ (s : AccountsState). without entity_cmp s.used c.args.key.now) c.self.view_is

pub returns-in_default-clause-sorted : goal.returns-in_default-clause-sorted
returns-in_default-clause-sorted c =
    subst (λ (m : List (EntityKey × Account)). IsSorted entity_cmp (quotas_of m)) (sym c.in_default.ensures.rest)
    (subst (IsSorted entity_cmp) (without-mapped entity_cmp (λ (a : Account). a.quota) _ _)
    (sorted-without entity_total _ _ (quotas_sorted _ _ c.self.invariant)))

pub returns-in_default-clause-whole : goal.returns-in_default-clause-whole
returns-in_default-clause-whole c =
    let sums : total (quotas_of (without entity_cmp c.self.inside.table c.args.key.now)) + at entity_cmp 0 (quotas_of c.self.inside.table) c.args.key.now ≡ total (quotas_of c.self.inside.table) =
    released_total _ _ (λ a. a.quota) _ c.self.invariant in
    let rest : total (quotas_of c.take.new.self) ≡ total (quotas_of (without entity_cmp c.self.inside.table c.args.key.now)) =
    ap (λ (m : List (EntityKey × Account)). total (quotas_of m)) c.in_default.ensures.rest in
    subst (λ (s : AccountsState). total (quotas_of c.take.new.self) ≤ total s.quotas) c.self.view_is (omega (arith, sums, rest))

pub returns-in_default-clause-same : goal.returns-in_default-clause-same
returns-in_default-clause-same c =
    let sums : total (used_of (without entity_cmp c.self.inside.table c.args.key.now)) + at entity_cmp 0 (used_of c.self.inside.table) c.args.key.now ≡ total (used_of c.self.inside.table) =
    released_total _ _ (λ a. a.used) _ c.self.invariant in
    let rest : total (used_of c.take.new.self) ≡ total (used_of (without entity_cmp c.self.inside.table c.args.key.now)) =
    ap (λ (m : List (EntityKey × Account)). total (used_of m)) c.in_default.ensures.rest in
    let nothing : at entity_cmp 0 (used_of c.self.inside.table) c.args.key.now ≡ 0 =
    subst (λ (s : AccountsState). at entity_cmp 0 s.used c.args.key.now ≡ 0) (sym c.self.view_is) c.requires in
    subst (λ (s : AccountsState). total (used_of c.take.new.self) ≡ total s.used) c.self.view_is (omega (arith, sums, rest, nothing))

pub returns-clause-sorted : goal.returns-clause-sorted
returns-clause-sorted c =
    subst (λ (m : List (EntityKey × Account)). IsSorted entity_cmp (quotas_of m)) (sym c.in-Some.ensures.rest)
    (subst (IsSorted entity_cmp) (without-mapped entity_cmp (λ (a : Account). a.quota) _ _)
    (sorted-without entity_total _ _ (quotas_sorted _ _ c.self.invariant)))

pub returns-clause-whole : goal.returns-clause-whole
returns-clause-whole c =
    let sums : total (quotas_of (without entity_cmp c.self.inside.table c.args.key.now)) + at entity_cmp 0 (quotas_of c.self.inside.table) c.args.key.now ≡ total (quotas_of c.self.inside.table) =
    released_total _ _ (λ a. a.quota) _ c.self.invariant in
    let rest : total (quotas_of c.take.new.self) ≡ total (quotas_of (without entity_cmp c.self.inside.table c.args.key.now)) =
    ap (λ (m : List (EntityKey × Account)). total (quotas_of m)) c.in-Some.ensures.rest in
    subst (λ (s : AccountsState). total (quotas_of c.take.new.self) ≤ total s.quotas) c.self.view_is (omega (arith, sums, rest))

pub returns-clause-same : goal.returns-clause-same
returns-clause-same c =
    let sums : total (used_of (without entity_cmp c.self.inside.table c.args.key.now)) + at entity_cmp 0 (used_of c.self.inside.table) c.args.key.now ≡ total (used_of c.self.inside.table) =
    released_total _ _ (λ a. a.used) _ c.self.invariant in
    let rest : total (used_of c.take.new.self) ≡ total (used_of (without entity_cmp c.self.inside.table c.args.key.now)) =
    ap (λ (m : List (EntityKey × Account)). total (used_of m)) c.in-Some.ensures.rest in
    let nothing : at entity_cmp 0 (used_of c.self.inside.table) c.args.key.now ≡ 0 =
    subst (λ (s : AccountsState). at entity_cmp 0 s.used c.args.key.now ≡ 0) (sym c.self.view_is) c.requires in
    subst (λ (s : AccountsState). total (used_of c.take.new.self) ≡ total s.used) c.self.view_is (omega (arith, sums, rest, nothing))
