use Rattle.std.proofs.Common.{ap, ◌∙◌, subst}
use Rattle.pdcp_defs.specs.pool_defs.Pools.{PoolState, quota, IsPool}
use Rattle.packet_pool.proofs.PoolLemmas.{pool_sound}
use Rattle.packet_pool.proofs.pool.Pool.quota.Goals as goal

pub returns-clause-value : goal.returns-clause-value
unfolding quota
returns-clause-value c = c.quota.ensures ∙ ap (λ (p : PoolState). quota p c.args.key) c.self.view_is

pub returns-clause-sound : goal.returns-clause-sound
returns-clause-sound c = subst (IsPool 2048) c.self.view_is (pool_sound _ _ _ c.self.invariant)
