use Rattle.std.proofs.Common.{ap, ◌∙◌}
use Rattle.pdcp_defs.specs.pool_defs.Pools.{PoolState, used}
use Rattle.packet_pool.proofs.PoolChanges.{tied_released}
use Rattle.packet_pool.proofs.pool.Pool.release_quota.Goals as goal

pub release-requires : goal.release-requires
unfolding used
release-requires c =
    c.self.invariant.counted c.args.key ∙ ap (λ (p : PoolState). used p c.args.key) c.self.view_is ∙ c.requires

pub invariant_of-self : goal.invariant_of-self
unfolding used
invariant_of-self c =
    tied_released c.self.inside.region c.self.inside.contents.items c.self.inside.accounts c.release.new.self c.args.key c.self.invariant
    (c.self.invariant.counted c.args.key ∙ ap (λ (p : PoolState). used p c.args.key) c.self.view_is ∙ c.requires)
    c.release.ensures.quotas c.release.ensures.used c.release.ensures.sorted c.release.ensures.whole c.release.ensures.same
