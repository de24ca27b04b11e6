use Rattle.std.proofs.Common.{ap, ◌∙◌, Err}
use Rattle.gnb_types.specs.Orders.{entity_cmp}
use Rattle.tables.specs.Tables.{find}
use Rattle.pdcp_defs.specs.pool_defs.Pools.{PoolState}
use Rattle.pdcp_bearers.proofs.ue_bearers.RefLemmas.{all_for_one}
use Rattle.pdcp_bearers.proofs.ue_bearers.blocks.own_pool.Goals as goal

pub reserve_quota-requires : goal.reserve_quota-requires
unfolding find
reserve_quota-requires c = ap (λ (p : PoolState). find entity_cmp p.quotas c.args.key) c.in_ok-pool.ensures

pub unreachable-requires : goal.unreachable-requires
unreachable-requires c =
    all_for_one c.in_ok-pool.pool _ _ _ c.in_ok-pool.ensures c.from.ensures c.from-2.ensures
    (c.reserve_quota.ensures.no_quota (c.in-Err-NoQuota.is ∙ ap Err c.in-Err-NoQuota.field-0-is))
