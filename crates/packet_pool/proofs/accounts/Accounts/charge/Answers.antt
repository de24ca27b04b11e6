use Rattle.std.proofs.Common.{◌≡◌, ◌+◌, ◌<◌, ◌≤◌, ◌^◌, ℕ, refl, sym, ap, ◌∙◌, subst, arith}
use Rattle.gnb_types.specs.Orders.{entity_cmp}
use Rattle.tables.specs.Tables.{put, at}
use Rattle.tables.proofs.TableLaws.{put-mapped}
use Rattle.packet_pool.specs.declared.accounts.Account.{Account}
use Rattle.packet_pool.specs.inside.Accounts.{AccountsState, total, used_of}
use Rattle.packet_pool.proofs.AccountLemmas.{at_found, at_none, all_found, quota_small, put_alike, used_below, accounts_replaced, used_replaced}
use Rattle.packet_pool.proofs.accounts.Accounts.charge.Goals as goal

pub returns-in_default-clause-refused : goal.returns-in_default-clause-refused
returns-in_default-clause-refused c =
    subst (λ (s : AccountsState). at entity_cmp 0 s.used c.args.key.now ≡ at entity_cmp 0 s.quotas c.args.key.now) c.self.view_is
    (at_none (λ a. a.used) _ _ (sym c.in_default.ensures.value) ∙ sym (at_none (λ a. a.quota) _ _ (sym c.in_default.ensures.value)))

pub returns-then-account-clause-refused : goal.returns-then-account-clause-refused
returns-then-account-clause-refused c =
    let within : c.in-Some.account.now.used ≤ c.in-Some.account.now.quota =
    all_found (λ a. a.used ≤ a.quota) _ _ _ c.self.invariant.within (sym c.in-Some.ensures.value) in
    let same : c.in-Some.account.now.used ≡ c.in-Some.account.now.quota = omega arith in
    subst (λ (s : AccountsState). at entity_cmp 0 s.used c.args.key.now ≡ at entity_cmp 0 s.quotas c.args.key.now) c.self.view_is
    (at_found (λ a. a.used) _ _ _ (sym c.in-Some.ensures.value) ∙ same ∙ sym (at_found (λ a. a.quota) _ _ _ (sym c.in-Some.ensures.value)))

pub invariant_of-self-2 : goal.invariant_of-self-2
invariant_of-self-2 c = accounts_replaced _ _ _ _ _ c.self.invariant c.in-Some.ensures.same refl (omega arith)

pub returns-clause-quotas : goal.returns-clause-quotas
returns-clause-quotas c =
    put_alike (λ a. a.quota) _ _ _ _ c.in-Some.ensures.same refl ∙ ap (λ (s : AccountsState). s.quotas) c.self.view_is

pub returns-clause-used : goal.returns-clause-used
returns-clause-used c =
    sym (put-mapped entity_cmp (λ (a : Account). a.used) _ _ _)
    ∙ ap (λ (n : ℕ). put entity_cmp (used_of c.self.inside.table) c.args.key.now (n + 1)) (sym (at_found (λ a. a.used) _ _ _ (sym c.in-Some.ensures.value)))
    ∙ ap (λ (s : AccountsState). put entity_cmp s.used c.args.key.now (at entity_cmp 0 s.used c.args.key.now + 1)) c.self.view_is

pub returns-clause-room : goal.returns-clause-room
returns-clause-room c =
    subst (λ (s : AccountsState). at entity_cmp 0 s.used c.args.key.now < at entity_cmp 0 s.quotas c.args.key.now) c.self.view_is
    (omega (arith, at_found (λ a. a.used) _ _ _ (sym c.in-Some.ensures.value), at_found (λ a. a.quota) _ _ _ (sym c.in-Some.ensures.value)))

pub returns-clause-below : goal.returns-clause-below
returns-clause-below c =
    subst (λ (s : AccountsState). total s.used < total s.quotas) c.self.view_is
    (used_below _ _ _ c.self.invariant.within (sym c.in-Some.ensures.value) (omega arith))

pub returns-clause-whole : goal.returns-clause-whole
returns-clause-whole c =
    let found = at_found (λ a. a.used) _ _ _ (sym c.in-Some.ensures.value) in
    subst (λ (s : AccountsState). total (used_of (put entity_cmp c.self.inside.table c.args.key.now (record c.in-Some.account.now { used = c.in-Some.account.now.used + 1 }))) ≡ total s.used + 1) c.self.view_is
    (omega (arith, found, used_replaced c.self.inside.table c.args.key.now (record c.in-Some.account.now { used = c.in-Some.account.now.used + 1 }) _ c.self.invariant))

pub overflow_add-account : goal.overflow_add-account
overflow_add-account c =
    let small : c.in-Some.account.now.quota < 2 ^ 32 = quota_small _ _ _ _ c.self.invariant (sym c.in-Some.ensures.value) in
    let fits : c.in-Some.account.now.used + 1 < 2 ^ 32 = omega arith in
    omega (arith, fits)
