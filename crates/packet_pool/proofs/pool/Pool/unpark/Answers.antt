use Rattle.std.proofs.Common.{◌<◌, List, length, Option, false, set, sym, ap, ◌∙◌, subst, refl}
use Rattle.std.specs.Prelude.{IsSome}
use Rattle.std.specs.Ordering.{nat_cmp}
use Rattle.tables.specs.Tables.{find}
use Rattle.pdcp_defs.specs.pool_defs.Pools.{PoolState, packet_at, without_place, IsPool}
use Rattle.packet_pool.specs.declared.contents.Content.{Content}
use Rattle.packet_pool.specs.inside.Contents.{marked}
use Rattle.packet_pool.specs.inside.Pools.{state, places_of, IsConsistent}
use Rattle.packet_pool.proofs.PoolChanges.{places_without, tied_marked, marked_state}
use Rattle.packet_pool.proofs.PoolLemmas.{pool_sound, parked_block, content_within, find_places, place_parked}
use Rattle.packet_pool.proofs.pool.Pool.unpark.Goals as goal

pub mark-requires : goal.mark-requires
mark-requires c =
    let block = parked_block c.self.inside.region c.self.inside.contents.items c.self.inside.accounts c.args.place
    (subst (λ (p : PoolState). IsSome (packet_at p c.args.place)) (sym c.self.view_is) c.requires) in
    content_within c.self.inside.contents.items c.args.place (subst IsSome (sym block.1) refl)

pub invariant_of-self : goal.invariant_of-self
invariant_of-self c =
    let block = parked_block c.self.inside.region c.self.inside.contents.items c.self.inside.accounts c.args.place
    (subst (λ (p : PoolState). IsSome (packet_at p c.args.place)) (sym c.self.view_is) c.requires) in
    subst (λ (new : List (Option Content)). IsConsistent c.self.inside.region new c.self.inside.accounts) (sym c.mark.ensures)
    (tied_marked c.self.inside.region c.self.inside.contents.items c.self.inside.accounts c.args.place block.0 false c.self.invariant block.1)

pub returns-clause-sound : goal.returns-clause-sound
returns-clause-sound c = subst (IsPool 2048) c.self.view_is (pool_sound _ _ _ c.self.invariant)

pub returns-clause-there : goal.returns-clause-there
returns-clause-there c =
    let block = parked_block c.self.inside.region c.self.inside.contents.items c.self.inside.accounts c.args.place
    (subst (λ (p : PoolState). IsSome (packet_at p c.args.place)) (sym c.self.view_is) c.requires) in
    ap (λ (p : PoolState). find nat_cmp p.parked c.args.place) (sym c.self.view_is)
    ∙ find_places c.self.inside.contents.items c.args.place
    ∙ place_parked c.self.inside.contents.items c.args.place block.0 block.1 block.2

pub returns-clause-unparked : goal.returns-clause-unparked
returns-clause-unparked c =
    let block = parked_block c.self.inside.region c.self.inside.contents.items c.self.inside.accounts c.args.place
    (subst (λ (p : PoolState). IsSome (packet_at p c.args.place)) (sym c.self.view_is) c.requires) in
    let within : c.args.place < length c.self.inside.contents.items =
    content_within c.self.inside.contents.items c.args.place (subst IsSome (sym block.1) refl) in
    ap (λ (new : List (Option Content)). state c.self.inside.region new c.self.inside.accounts) c.mark.ensures
    ∙ marked_state c.self.inside.region c.self.inside.contents.items c.self.inside.accounts c.args.place block.0 false _ block.1
    (ap (λ (o : Option Content). places_of (set c.self.inside.contents.items c.args.place (marked false o))) block.1
    ∙ places_without c.self.inside.contents.items c.args.place within (record block.0 { parked = false }) refl)
    ∙ ap (λ (p : PoolState). without_place p c.args.place) c.self.view_is
