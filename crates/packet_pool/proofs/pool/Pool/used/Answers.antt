use Rattle.std.proofs.Common.{ap, ◌∙◌, subst}
use Rattle.pdcp_defs.specs.pool_defs.Pools.{PoolState, used, IsPool}
use Rattle.packet_pool.proofs.PoolLemmas.{pool_sound}
use Rattle.packet_pool.proofs.pool.Pool.used.Goals as goal

pub returns-clause-value : goal.returns-clause-value
unfolding used
returns-clause-value c = c.used.ensures ∙ c.self.invariant.counted c.args.key ∙ ap (λ (p : PoolState). used p c.args.key) c.self.view_is

pub returns-clause-sound : goal.returns-clause-sound
returns-clause-sound c = subst (IsPool 2048) c.self.view_is (pool_sound _ _ _ c.self.invariant)
