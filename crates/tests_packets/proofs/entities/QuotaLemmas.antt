-- What the tests need: quotas of a new pool, and references beside others.
use Rattle.std.proofs.Common.{◌≡◌, ◌≢◌, ℕ, false, None, sym, ap, ◌∙◌, subst}
use Rattle.std.specs.Prelude.{IsSome}
use Rattle.std.specs.Ordering.{nat_cmp, eq_by_cmp}
use Rattle.gnb_types.specs.declared.keys.EntityKey.{EntityKey}
use Rattle.gnb_types.specs.Orders.{entity_cmp}
use Rattle.gnb_types.proofs.OrderLemmas.{entity_total}
use Rattle.tables.specs.Tables.{find}
use Rattle.tables.proofs.TableLaws.{find-put-other}
use Rattle.pdcp_defs.specs.pool_defs.Pools.{Stored, PoolState, packet_of, new_pool, with_quota, with_packet, without_packet, IsPool}
use Rattle.pdcp_defs.proofs.pool_defs.PoolLaws.{put_keeps, take_keeps}

pub no_quota : (p : PoolState) (key : EntityKey) (blocks : ℕ) → p ≡ new_pool blocks → find entity_cmp p.quotas key ≡ None
unfolding find
no_quota p key blocks is = ap (λ (s : PoolState). find entity_cmp s.quotas key) is

pub no_other_quota : (p q : PoolState) (key other : EntityKey) (n blocks : ℕ) → p ≡ new_pool blocks → q ≡ with_quota p key n
    → eq_by_cmp entity_cmp other key ≡ false → find entity_cmp q.quotas other ≡ None
no_other_quota p q key other n blocks is then apart =
    ap (λ (s : PoolState). find entity_cmp s.quotas other) then
    ∙ find-put-other entity_total p.quotas key n other apart ∙ no_quota p other blocks is

-- a packet is put beside one that is held
pub beside : (p q : PoolState) (r n : ℕ) (x : Stored) → IsPool 2048 p → find nat_cmp p.refs r ≡ None → q ≡ with_packet p r x
    → IsSome (packet_of p n) → IsSome (packet_of q n)
beside p q r n x sound fresh is held = subst IsSome (sym (put_keeps 2048 p q r n x sound fresh is held)) held

-- another reference is spent
pub spared : (p q : PoolState) (r n : ℕ) → q ≡ without_packet p r → n ≢ r → IsSome (packet_of p n) → IsSome (packet_of q n)
spared p q r n is other held = subst IsSome (sym (take_keeps p q r n is other)) held
