use Rattle.std.proofs.Common.{◌≡◌, ◌+◌, ◌-◌, ◌<◌, ◌≤◌, ℕ, refl, sym, ap, ◌∙◌, subst, arith}
use Rattle.gnb_types.specs.Orders.{entity_cmp}
use Rattle.tables.specs.Tables.{put, at}
use Rattle.tables.proofs.TableLaws.{put-mapped}
use Rattle.packet_pool.specs.declared.accounts.Account.{Account}
use Rattle.packet_pool.specs.inside.Accounts.{AccountsState, total, used_of}
use Rattle.packet_pool.proofs.AccountLemmas.{at_found, at_none, all_found, put_alike, accounts_replaced, used_replaced}
use Rattle.packet_pool.proofs.accounts.Accounts.discharge.Goals as goal

pub returns-in_default-clause-used : goal.returns-in_default-clause-used
returns-in_default-clause-used c =
    let some : 0 < at entity_cmp 0 (used_of c.self.inside.table) c.args.key.now =
    subst (λ (s : AccountsState). 0 < at entity_cmp 0 s.used c.args.key.now) (sym c.self.view_is) c.requires in
    absurd (omega (arith, some, at_none (λ a. a.used) _ _ (sym c.in_default.ensures.value)))

pub returns-in_default-clause-whole : goal.returns-in_default-clause-whole
returns-in_default-clause-whole c =
    let some : 0 < at entity_cmp 0 (used_of c.self.inside.table) c.args.key.now =
    subst (λ (s : AccountsState). 0 < at entity_cmp 0 s.used c.args.key.now) (sym c.self.view_is) c.requires in
    absurd (omega (arith, some, at_none (λ a. a.used) _ _ (sym c.in_default.ensures.value)))

pub overflow_sub-account : goal.overflow_sub-account
overflow_sub-account c =
    let some : 0 < at entity_cmp 0 (used_of c.self.inside.table) c.args.key.now =
    subst (λ (s : AccountsState). 0 < at entity_cmp 0 s.used c.args.key.now) (sym c.self.view_is) c.requires in
    omega (arith, some, at_found (λ a. a.used) _ _ _ (sym c.in-Some.ensures.value))

pub invariant_of-self-2 : goal.invariant_of-self-2
invariant_of-self-2 c =
    let within : c.in-Some.account.now.used ≤ c.in-Some.account.now.quota =
    all_found (λ a. a.used ≤ a.quota) _ _ _ c.self.invariant.within (sym c.in-Some.ensures.value) in
    accounts_replaced _ _ _ _ _ c.self.invariant c.in-Some.ensures.same refl (omega arith)

pub returns-clause-quotas : goal.returns-clause-quotas
returns-clause-quotas c =
    put_alike (λ a. a.quota) _ _ _ _ c.in-Some.ensures.same refl ∙ ap (λ (s : AccountsState). s.quotas) c.self.view_is

pub returns-clause-used : goal.returns-clause-used
returns-clause-used c =
    sym (put-mapped entity_cmp (λ (a : Account). a.used) _ _ _)
    ∙ ap (λ (n : ℕ). put entity_cmp (used_of c.self.inside.table) c.args.key.now (n - 1)) (sym (at_found (λ a. a.used) _ _ _ (sym c.in-Some.ensures.value)))
    ∙ ap (λ (s : AccountsState). put entity_cmp s.used c.args.key.now (at entity_cmp 0 s.used c.args.key.now - 1)) c.self.view_is

pub returns-clause-whole : goal.returns-clause-whole
returns-clause-whole c =
    let some : 0 < at entity_cmp 0 (used_of c.self.inside.table) c.args.key.now =
    subst (λ (s : AccountsState). 0 < at entity_cmp 0 s.used c.args.key.now) (sym c.self.view_is) c.requires in
    let found = at_found (λ a. a.used) _ _ _ (sym c.in-Some.ensures.value) in
    subst (λ (s : AccountsState). total (used_of (put entity_cmp c.self.inside.table c.args.key.now (record c.in-Some.account.now { used = c.in-Some.account.now.used - 1 }))) + 1 ≡ total s.used) c.self.view_is
    (omega (arith, some, found, used_replaced c.self.inside.table c.args.key.now (record c.in-Some.account.now { used = c.in-Some.account.now.used - 1 }) _ c.self.invariant))
