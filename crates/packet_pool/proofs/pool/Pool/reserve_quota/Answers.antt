use Rattle.std.proofs.Common.{◌≡◌, ◌+◌, ◌≤◌, ◌<◌, ℕ, None, length, sym, subst, arith}
use Rattle.std.specs.Prelude.{OnOk}
use Rattle.gnb_types.specs.Orders.{entity_cmp}
use Rattle.tables.specs.Tables.{find}
use Rattle.pdcp_defs.specs.pool_defs.Pools.{PoolState, reserved}
use Rattle.packet_pool.specs.inside.Accounts.{total}
use Rattle.packet_pool.proofs.PoolChanges.{tied_after}
use Rattle.packet_pool.proofs.pool.Pool.reserve_quota.Goals as goal

pub invariant_of-self : goal.invariant_of-self
invariant_of-self c =
    let blocks : c.len-blocks.result ≡ length c.self.inside.contents.items = omega (arith, c.len-blocks.ensures) in
    tied_after c.self.inside.region c.self.inside.contents.items c.self.inside.accounts c.reserve.new.self c.args.key c.args.n c.reserve.result
    c.self.invariant (subst (λ (p : PoolState). find entity_cmp p.quotas c.args.key ≡ None) (sym c.self.view_is) c.requires)
    c.reserve.ensures.quotas c.reserve.ensures.used c.reserve.ensures.sorted
    (subst (λ (m : ℕ). OnOk c.reserve.result (total c.self.inside.accounts.quotas + c.args.n ≤ m)) blocks c.reserve.ensures.room)
    c.reserve.ensures.whole c.reserve.ensures.same c.reserve.ensures.err

pub returns-clause-room : goal.returns-clause-room
unfolding reserved
returns-clause-room c =
    let blocks : c.len-blocks.result ≡ length c.self.inside.contents.items = omega (arith, c.len-blocks.ensures) in
    subst (λ (p : PoolState). OnOk c.reserve.result (reserved p + c.args.n ≤ p.blocks)) c.self.view_is
    (subst (λ (m : ℕ). OnOk c.reserve.result (total c.self.inside.accounts.quotas + c.args.n ≤ m)) blocks c.reserve.ensures.room)

pub returns-clause-no_quota : goal.returns-clause-no_quota
unfolding reserved
returns-clause-no_quota c is =
    let blocks : c.len-blocks.result ≡ length c.self.inside.contents.items = omega (arith, c.len-blocks.ensures) in
    subst (λ (p : PoolState). p.blocks < reserved p + c.args.n) c.self.view_is
    (subst (λ (m : ℕ). m < total c.self.inside.accounts.quotas + c.args.n) blocks (c.reserve.ensures.no_quota is))

pub returns-clause-refused : goal.returns-clause-refused
unfolding reserved
returns-clause-refused c above =
    let blocks : c.len-blocks.result ≡ length c.self.inside.contents.items = omega (arith, c.len-blocks.ensures) in
    c.reserve.ensures.refused
    (subst (λ (m : ℕ). m < total c.self.inside.accounts.quotas + c.args.n) (sym blocks)
    (subst (λ (p : PoolState). p.blocks < reserved p + c.args.n) (sym c.self.view_is) above))
