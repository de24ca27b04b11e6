use Rattle.std.proofs.Common.{◌<◌, List, length, Option, true, set, sym, ap, ◌∙◌, subst, refl}
use Rattle.std.specs.Prelude.{IsSome}
use Rattle.std.specs.Ordering.{nat_cmp}
use Rattle.tables.specs.Tables.{find}
use Rattle.pdcp_defs.specs.pool_defs.Pools.{PoolState, packet_of, with_place, IsPool}
use Rattle.packet_pool.specs.declared.contents.Content.{Content}
use Rattle.packet_pool.specs.inside.Contents.{marked}
use Rattle.packet_pool.specs.inside.Pools.{state, places_of, IsConsistent}
use Rattle.packet_pool.proofs.PoolChanges.{places_put, tied_marked, marked_state}
use Rattle.packet_pool.proofs.PoolLemmas.{pool_sound, held_block, content_within, find_places, place_unparked}
use Rattle.packet_pool.proofs.pool.Pool.park.Goals as goal

pub mark-requires : goal.mark-requires
mark-requires c =
    let block = held_block c.self.inside.region c.self.inside.contents.items c.self.inside.accounts c.r.inside.block
    (subst IsSome (ap (λ (p : PoolState). packet_of p c.args.r) (sym c.self.view_is) ∙ ap (packet_of _) (sym c.r.view_is)) c.requires) in
    content_within c.self.inside.contents.items c.r.inside.block (subst IsSome (sym block.1) refl)

pub invariant_of-self : goal.invariant_of-self
invariant_of-self c =
    let block = held_block c.self.inside.region c.self.inside.contents.items c.self.inside.accounts c.r.inside.block
    (subst IsSome (ap (λ (p : PoolState). packet_of p c.args.r) (sym c.self.view_is) ∙ ap (packet_of _) (sym c.r.view_is)) c.requires) in
    subst (λ (new : List (Option Content)). IsConsistent c.self.inside.region new c.self.inside.accounts) (sym c.mark.ensures)
    (tied_marked c.self.inside.region c.self.inside.contents.items c.self.inside.accounts c.r.inside.block block.0 true c.self.invariant block.1)

pub returns-clause-sound : goal.returns-clause-sound
returns-clause-sound c = subst (IsPool 2048) c.self.view_is (pool_sound _ _ _ c.self.invariant)

pub returns-clause-fresh : goal.returns-clause-fresh
returns-clause-fresh c =
    let block = held_block c.self.inside.region c.self.inside.contents.items c.self.inside.accounts c.r.inside.block
    (subst IsSome (ap (λ (p : PoolState). packet_of p c.args.r) (sym c.self.view_is) ∙ ap (packet_of _) (sym c.r.view_is)) c.requires) in
    ap (λ (p : PoolState). find nat_cmp p.parked c.r.inside.block) (sym c.self.view_is)
    ∙ find_places c.self.inside.contents.items c.r.inside.block
    ∙ place_unparked c.self.inside.contents.items c.r.inside.block block.0 block.1 block.2

pub returns-clause-parked : goal.returns-clause-parked
returns-clause-parked c =
    let block = held_block c.self.inside.region c.self.inside.contents.items c.self.inside.accounts c.r.inside.block
    (subst IsSome (ap (λ (p : PoolState). packet_of p c.args.r) (sym c.self.view_is) ∙ ap (packet_of _) (sym c.r.view_is)) c.requires) in
    let within : c.r.inside.block < length c.self.inside.contents.items =
    content_within c.self.inside.contents.items c.r.inside.block (subst IsSome (sym block.1) refl) in
    ap (λ (new : List (Option Content)). state c.self.inside.region new c.self.inside.accounts) c.mark.ensures
    ∙ marked_state c.self.inside.region c.self.inside.contents.items c.self.inside.accounts c.r.inside.block block.0 true _ block.1
    (ap (λ (o : Option Content). places_of (set c.self.inside.contents.items c.r.inside.block (marked true o))) block.1
    ∙ places_put c.self.inside.contents.items c.r.inside.block within (record block.0 { parked = true }) refl)
    ∙ ap (λ (p : PoolState). with_place p c.r.inside.block c.r.inside.block) c.self.view_is
    ∙ ap (with_place c.args.self.now c.r.inside.block) c.r.view_is
