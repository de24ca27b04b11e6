use Rattle.std.proofs.Common.{◌≡◌, ℕ, None, subst}
use Rattle.std.specs.Prelude.{IfOk, IsSome, Result}
use Rattle.std.specs.Ordering.{nat_cmp}
use Rattle.tables.specs.Tables.{find}
use Rattle.pdcp_defs.specs.pool_defs.Pools.{packet_of, packet_at, with_packet}
use Rattle.pdcp_defs.proofs.pool_defs.PoolLaws.{put_held, park_parked, unpark_held}
use Rattle.packet_pool.specs.declared.accounts.QuotaUsed.{QuotaUsed}
use Rattle.tests_packets.proofs.entities.QuotaLemmas.{no_quota}
use Rattle.tests_packets.proofs.entities.quotas.is_used_to_its_end.Goals as goal

pub reserve_quota-requires : goal.reserve_quota-requires
reserve_quota-requires g c = no_quota _ _ _ c.requires

pub bytes-requires : goal.bytes-requires
bytes-requires g c =
    let P : ℕ → Type 0 = λ r. find nat_cmp c.reserve_quota.new.self.refs r ≡ None in
    let Q : ℕ → Type 0 = λ r. c.put.new.self ≡ with_packet c.reserve_quota.new.self r _ in
    put_held 2048 _ _ _ _ c.put.ensures.sound
    (subst (λ (o : Result ℕ QuotaUsed). IfOk o P) c.expect-r.ensures c.put.ensures.fresh)
    (subst (λ (o : Result ℕ QuotaUsed). IfOk o Q) c.expect-r.ensures c.put.ensures.ok)

pub parked_bytes-requires : goal.parked_bytes-requires
parked_bytes-requires g c =
    let P : ℕ → Type 0 = λ r. find nat_cmp c.reserve_quota.new.self.refs r ≡ None in
    let Q : ℕ → Type 0 = λ r. c.put.new.self ≡ with_packet c.reserve_quota.new.self r _ in
    let held : IsSome (packet_of c.put.new.self c.expect-r.result) =
    put_held 2048 _ _ _ _ c.put.ensures.sound
    (subst (λ (o : Result ℕ QuotaUsed). IfOk o P) c.expect-r.ensures c.put.ensures.fresh)
    (subst (λ (o : Result ℕ QuotaUsed). IfOk o Q) c.expect-r.ensures c.put.ensures.ok) in
    park_parked _ _ _ _ held c.park-place.ensures.parked

pub take-requires : goal.take-requires
take-requires g c =
    let P : ℕ → Type 0 = λ r. find nat_cmp c.reserve_quota.new.self.refs r ≡ None in
    let Q : ℕ → Type 0 = λ r. c.put.new.self ≡ with_packet c.reserve_quota.new.self r _ in
    let held : IsSome (packet_of c.put.new.self c.expect-r.result) =
    put_held 2048 _ _ _ _ c.put.ensures.sound
    (subst (λ (o : Result ℕ QuotaUsed). IfOk o P) c.expect-r.ensures c.put.ensures.fresh)
    (subst (λ (o : Result ℕ QuotaUsed). IfOk o Q) c.expect-r.ensures c.put.ensures.ok) in
    let parked : IsSome (packet_at c.park-place.new.self c.park-place.result) = park_parked _ _ _ _ held c.park-place.ensures.parked in
    unpark_held 2048 _ _ _ _ c.unpark-r.ensures.sound parked c.unpark-r.ensures.there c.unpark-r.ensures.unparked
