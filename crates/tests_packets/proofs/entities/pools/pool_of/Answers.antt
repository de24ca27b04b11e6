use Rattle.std.proofs.Common.{◌≡◌, ap}
use Rattle.gnb_types.specs.Orders.{entity_cmp}
use Rattle.tables.specs.Tables.{find}
use Rattle.pdcp_defs.specs.pool_defs.Pools.{PoolState}
use Rattle.tests_packets.proofs.entities.pools.pool_of.Goals as goal

pub reserve_quota-requires : goal.reserve_quota-requires
unfolding find
reserve_quota-requires c = ap (λ (p : PoolState). find entity_cmp p.quotas c.args.key) c.in_ok-pool.ensures
