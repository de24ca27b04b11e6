use Rattle.std.proofs.Common.{◌≡◌, ◌<◌, ◌∷◌, ℕ, List, length, sym, ap, ◌∙◌, subst, refl}
use Rattle.std.specs.Ordering.{nat_cmp}
use Rattle.gnb_types.specs.Orders.{entity_cmp}
use Rattle.tables.specs.Tables.{find, at}
use Rattle.pdcp_defs.specs.pool_defs.Pools.{PoolState, with_packet, used, quota, IsPool}
use Rattle.packet_pool.specs.declared.region.Block.{Block}
use Rattle.packet_pool.specs.inside.Regions.{octets_at}
use Rattle.packet_pool.specs.inside.Contents.{joined}
use Rattle.packet_pool.proofs.PoolChanges.{first_free, stored_none, tied_put, put_state, on_err}
use Rattle.packet_pool.proofs.PoolLemmas.{pool_sound, find_refs}
use Rattle.packet_pool.proofs.pool.Pool.put.Goals as goal

pub returns-in_err-charge-clause-sound : goal.returns-in_err-charge-clause-sound
returns-in_err-charge-clause-sound c = subst (IsPool 2048) c.self.view_is (pool_sound _ _ _ c.self.invariant)

pub returns-in_err-charge-clause-refused : goal.returns-in_err-charge-clause-refused
unfolding used quota
returns-in_err-charge-clause-refused c =
    on_err _ _
    (subst (λ (p : PoolState). used p c.args.key ≡ quota p c.args.key) c.self.view_is
    (sym (c.self.invariant.counted c.args.key) ∙ c.in_err-charge.ensures.refused))

pub write-requires-clause-used : goal.write-requires-clause-used
write-requires-clause-used c = (first_free _ _ _ _ c.take_first-block.ensures.first c.self.invariant.free_once).1

pub invariant_of-self-2 : goal.invariant_of-self-2
invariant_of-self-2 c =
    let within : c.take_first-block.result < length c.self.inside.contents.items =
    subst (λ (n : ℕ). c.take_first-block.result < n) c.self.invariant.sized c.take_first-block.ensures.within in
    tied_put c.self.inside.region c.write.new.self c.self.inside.contents.items c.self.inside.accounts c.charge.new.self
    c.take_first-block.result _ c.self.invariant
    (c.take_first-block.ensures.first ∙ ap (λ (rest : List ℕ). c.take_first-block.result ∷ rest) (sym c.write.ensures.free))
    (c.write.ensures.blocks ∙ ap length c.take_first-block.ensures.blocks)
    (λ n other. c.write.ensures.others n other ∙ ap (λ (blocks : List Block). octets_at blocks n) c.take_first-block.ensures.blocks)
    within c.requires
    c.in_ok-charge.ensures.quotas c.in_ok-charge.ensures.used c.in_ok-charge.ensures.whole c.in_ok-charge.ensures.room

pub returns-clause-sound : goal.returns-clause-sound
returns-clause-sound c = subst (IsPool 2048) c.self.view_is (pool_sound _ _ _ c.self.invariant)

pub returns-clause-fresh : goal.returns-clause-fresh
returns-clause-fresh c =
    ap (λ (p : PoolState). find nat_cmp p.refs c.take_first-block.result) (sym c.self.view_is)
    ∙ find_refs c.self.inside.contents.items c.self.inside.region.blocks c.take_first-block.result
    ∙ stored_none _ _ _ (ap joined (first_free _ _ _ _ c.take_first-block.ensures.first c.self.invariant.free_once).0)

pub returns-clause-ok : goal.returns-clause-ok
returns-clause-ok c =
    let within : c.take_first-block.result < length c.self.inside.contents.items =
    subst (λ (n : ℕ). c.take_first-block.result < n) c.self.invariant.sized c.take_first-block.ensures.within in
    put_state c.self.inside.region c.write.new.self c.self.inside.contents.items c.self.inside.accounts c.charge.new.self
    c.take_first-block.result _ c.args.bytes.now within
    (ap joined (first_free _ _ _ _ c.take_first-block.ensures.first c.self.invariant.free_once).0) refl
    (λ n other. c.write.ensures.others n other ∙ ap (λ (blocks : List Block). octets_at blocks n) c.take_first-block.ensures.blocks)
    c.in_ok-charge.ensures.quotas c.write.ensures.written
    ∙ ap (λ (p : PoolState). with_packet p c.take_first-block.result (record { key = c.args.key; bytes = c.args.bytes.now })) c.self.view_is

pub returns-clause-room : goal.returns-clause-room
unfolding used quota
returns-clause-room c =
    subst (λ (p : PoolState). used p c.args.key < quota p c.args.key) c.self.view_is
    (subst (λ (n : ℕ). n < at entity_cmp 0 c.self.inside.accounts.quotas c.args.key) (c.self.invariant.counted c.args.key) c.in_ok-charge.ensures.room)
