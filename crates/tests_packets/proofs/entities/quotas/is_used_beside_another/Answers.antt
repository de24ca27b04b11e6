use Rattle.std.proofs.Common.{◌≡◌, ◌≢◌, ℕ, None, sym, subst, refl}
use Rattle.std.specs.Prelude.{IfOk, OnErr, IsSome, Result}
use Rattle.std.specs.Ordering.{nat_cmp}
use Rattle.tables.specs.Tables.{find}
use Rattle.pdcp_defs.specs.pool_defs.Pools.{PoolState, packet_of, with_packet}
use Rattle.pdcp_defs.proofs.pool_defs.PoolLaws.{put_held, new_other}
use Rattle.packet_pool.specs.declared.accounts.QuotaUsed.{QuotaUsed}
use Rattle.tests_packets.proofs.entities.QuotaLemmas.{no_quota, no_other_quota, beside, spared}
use Rattle.tests_packets.proofs.entities.quotas.is_used_beside_another.Goals as goal

pub reserve_quota-requires : goal.reserve_quota-requires
reserve_quota-requires g c = no_quota _ _ _ c.requires

pub reserve_quota-requires-2 : goal.reserve_quota-requires-2
reserve_quota-requires-2 g c =
    no_other_quota _ _ _ _ _ _ c.requires c.in_ok-reserve_quota.ensures.ok refl

pub take-requires : goal.take-requires
take-requires g c =
    let P : ℕ → Type 0 = λ r. find nat_cmp c.reserve_quota-2.new.self.refs r ≡ None in
    let Q : ℕ → Type 0 = λ r. c.put.new.self ≡ with_packet c.reserve_quota-2.new.self r _ in
    let first : IsSome (packet_of c.put.new.self c.expect-first.result) =
    put_held 2048 _ _ _ _ c.put.ensures.sound
    (subst (λ (o : Result ℕ QuotaUsed). IfOk o P) c.expect-first.ensures c.put.ensures.fresh)
    (subst (λ (o : Result ℕ QuotaUsed). IfOk o Q) c.expect-first.ensures c.put.ensures.ok) in
    let kept : c.put-2.new.self ≡ c.put.new.self =
    subst (λ (o : Result ℕ QuotaUsed). OnErr o (c.put-2.new.self ≡ c.put.new.self)) c.expect_err.ensures c.put-2.ensures.err in
    let first : IsSome (packet_of c.put-2.new.self c.expect-first.result) =
    subst (λ (p : PoolState). IsSome (packet_of p c.expect-first.result)) (sym kept) first in
    let R : ℕ → Type 0 = λ r. find nat_cmp c.put-2.new.self.refs r ≡ None in
    let S : ℕ → Type 0 = λ r. c.put-3.new.self ≡ with_packet c.put-2.new.self r _ in
    beside _ _ _ _ _ c.put-3.ensures.sound
    (subst (λ (o : Result ℕ QuotaUsed). IfOk o R) c.expect-second.ensures c.put-3.ensures.fresh)
    (subst (λ (o : Result ℕ QuotaUsed). IfOk o S) c.expect-second.ensures c.put-3.ensures.ok) first

pub bytes-requires : goal.bytes-requires
bytes-requires g c =
    let P : ℕ → Type 0 = λ r. find nat_cmp c.reserve_quota-2.new.self.refs r ≡ None in
    let Q : ℕ → Type 0 = λ r. c.put.new.self ≡ with_packet c.reserve_quota-2.new.self r _ in
    let first : IsSome (packet_of c.put.new.self c.expect-first.result) =
    put_held 2048 _ _ _ _ c.put.ensures.sound
    (subst (λ (o : Result ℕ QuotaUsed). IfOk o P) c.expect-first.ensures c.put.ensures.fresh)
    (subst (λ (o : Result ℕ QuotaUsed). IfOk o Q) c.expect-first.ensures c.put.ensures.ok) in
    let kept : c.put-2.new.self ≡ c.put.new.self =
    subst (λ (o : Result ℕ QuotaUsed). OnErr o (c.put-2.new.self ≡ c.put.new.self)) c.expect_err.ensures c.put-2.ensures.err in
    let first : IsSome (packet_of c.put-2.new.self c.expect-first.result) =
    subst (λ (p : PoolState). IsSome (packet_of p c.expect-first.result)) (sym kept) first in
    let R : ℕ → Type 0 = λ r. find nat_cmp c.put-2.new.self.refs r ≡ None in
    let S : ℕ → Type 0 = λ r. c.put-3.new.self ≡ with_packet c.put-2.new.self r _ in
    let second_fresh : find nat_cmp c.put-2.new.self.refs c.expect-second.result ≡ None =
    subst (λ (o : Result ℕ QuotaUsed). IfOk o R) c.expect-second.ensures c.put-3.ensures.fresh in
    let second : IsSome (packet_of c.put-3.new.self c.expect-second.result) =
    put_held 2048 _ _ _ _ c.put-3.ensures.sound second_fresh
    (subst (λ (o : Result ℕ QuotaUsed). IfOk o S) c.expect-second.ensures c.put-3.ensures.ok) in
    let other : c.expect-second.result ≢ c.expect-first.result = λ same. new_other _ _ _ second_fresh first (sym same) in
    let second : IsSome (packet_of c.take.new.self c.expect-second.result) = spared _ _ _ _ c.take.ensures.taken other second in
    let T : ℕ → Type 0 = λ r. find nat_cmp c.take.new.self.refs r ≡ None in
    let U : ℕ → Type 0 = λ r. c.put-4.new.self ≡ with_packet c.take.new.self r _ in
    let again_fresh : find nat_cmp c.take.new.self.refs c.expect-again.result ≡ None =
    subst (λ (o : Result ℕ QuotaUsed). IfOk o T) c.expect-again.ensures c.put-4.ensures.fresh in
    let kept : IsSome (packet_of c.put-4.new.self c.expect-second.result) =
    beside _ _ _ _ _ c.put-4.ensures.sound again_fresh
    (subst (λ (o : Result ℕ QuotaUsed). IfOk o U) c.expect-again.ensures c.put-4.ensures.ok) second in
    kept

pub bytes-requires-2 : goal.bytes-requires-2
bytes-requires-2 g c =
    let T : ℕ → Type 0 = λ r. find nat_cmp c.take.new.self.refs r ≡ None in
    let U : ℕ → Type 0 = λ r. c.put-4.new.self ≡ with_packet c.take.new.self r _ in
    put_held 2048 _ _ _ _ c.put-4.ensures.sound
    (subst (λ (o : Result ℕ QuotaUsed). IfOk o T) c.expect-again.ensures c.put-4.ensures.fresh)
    (subst (λ (o : Result ℕ QuotaUsed). IfOk o U) c.expect-again.ensures c.put-4.ensures.ok)

pub take-requires-3 : goal.take-requires-3
take-requires-3 g c =
    let P : ℕ → Type 0 = λ r. find nat_cmp c.reserve_quota-2.new.self.refs r ≡ None in
    let Q : ℕ → Type 0 = λ r. c.put.new.self ≡ with_packet c.reserve_quota-2.new.self r _ in
    let first : IsSome (packet_of c.put.new.self c.expect-first.result) =
    put_held 2048 _ _ _ _ c.put.ensures.sound
    (subst (λ (o : Result ℕ QuotaUsed). IfOk o P) c.expect-first.ensures c.put.ensures.fresh)
    (subst (λ (o : Result ℕ QuotaUsed). IfOk o Q) c.expect-first.ensures c.put.ensures.ok) in
    let kept : c.put-2.new.self ≡ c.put.new.self =
    subst (λ (o : Result ℕ QuotaUsed). OnErr o (c.put-2.new.self ≡ c.put.new.self)) c.expect_err.ensures c.put-2.ensures.err in
    let first : IsSome (packet_of c.put-2.new.self c.expect-first.result) =
    subst (λ (p : PoolState). IsSome (packet_of p c.expect-first.result)) (sym kept) first in
    let R : ℕ → Type 0 = λ r. find nat_cmp c.put-2.new.self.refs r ≡ None in
    let S : ℕ → Type 0 = λ r. c.put-3.new.self ≡ with_packet c.put-2.new.self r _ in
    let second_fresh : find nat_cmp c.put-2.new.self.refs c.expect-second.result ≡ None =
    subst (λ (o : Result ℕ QuotaUsed). IfOk o R) c.expect-second.ensures c.put-3.ensures.fresh in
    let second : IsSome (packet_of c.put-3.new.self c.expect-second.result) =
    put_held 2048 _ _ _ _ c.put-3.ensures.sound second_fresh
    (subst (λ (o : Result ℕ QuotaUsed). IfOk o S) c.expect-second.ensures c.put-3.ensures.ok) in
    let other : c.expect-second.result ≢ c.expect-first.result = λ same. new_other _ _ _ second_fresh first (sym same) in
    let second : IsSome (packet_of c.take.new.self c.expect-second.result) = spared _ _ _ _ c.take.ensures.taken other second in
    let T : ℕ → Type 0 = λ r. find nat_cmp c.take.new.self.refs r ≡ None in
    let U : ℕ → Type 0 = λ r. c.put-4.new.self ≡ with_packet c.take.new.self r _ in
    let again_fresh : find nat_cmp c.take.new.self.refs c.expect-again.result ≡ None =
    subst (λ (o : Result ℕ QuotaUsed). IfOk o T) c.expect-again.ensures c.put-4.ensures.fresh in
    let kept : IsSome (packet_of c.put-4.new.self c.expect-second.result) =
    beside _ _ _ _ _ c.put-4.ensures.sound again_fresh
    (subst (λ (o : Result ℕ QuotaUsed). IfOk o U) c.expect-again.ensures c.put-4.ensures.ok) second in
    spared _ _ _ _ c.take-2.ensures.taken (new_other _ _ _ again_fresh second) kept
