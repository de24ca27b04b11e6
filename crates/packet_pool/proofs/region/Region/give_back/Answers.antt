use Rattle.std.proofs.Common.{◌≡◌, ◌==◌, ◌<◌, ◌∷◌, length, sym, ap, ◌∙◌, subst, arith}
use Rattle.std.specs.List.{count_by}
use Rattle.packet_pool.specs.inside.Regions.{RegionState, octets_at}
use Rattle.packet_pool.proofs.RegionLemmas.{chain_length, chain_given, region_given, octets_set_other}
use Rattle.packet_pool.proofs.region.Region.give_back.Goals as goal

pub overflow_add-self : goal.overflow_add-self
overflow_add-self c =
    let size : length c.args.self.now.free ≡ c.self.inside.free =
    ap (λ (s : RegionState). length s.free) (sym c.self.view_is) ∙ chain_length c.self.inside.blocks.items c.self.inside.first c.self.inside.free in
    let blocks : length c.args.self.now.blocks ≡ length c.self.inside.blocks.items = ap (λ (s : RegionState). length s.blocks) (sym c.self.view_is) in
    omega (arith, size, blocks, c.requires.room, c.self.invariant.limit)

pub invariant_of-self : goal.invariant_of-self
invariant_of-self c =
    region_given _ _ _ _ _ c.self.invariant
    (subst (λ (s : RegionState). c.args.number < length s.blocks) (sym c.self.view_is) c.requires.within)
    (subst (λ (s : RegionState). count_by (λ m. m == c.args.number) s.free ≡ 0) (sym c.self.view_is) c.requires.used)
    c.set_next.ensures

pub returns-clause-free : goal.returns-clause-free
returns-clause-free c =
    chain_given _ _ _ _ _
    (subst (λ (s : RegionState). c.args.number < length s.blocks) (sym c.self.view_is) c.requires.within)
    (subst (λ (s : RegionState). count_by (λ m. m == c.args.number) s.free ≡ 0) (sym c.self.view_is) c.requires.used)
    c.set_next.ensures
    ∙ ap (λ (s : RegionState). c.args.number ∷ s.free) c.self.view_is

pub returns-clause-others : goal.returns-clause-others
returns-clause-others c n other =
    octets_set_other _ _ _ n other ∙ ap (λ (s : RegionState). octets_at s.blocks n) c.self.view_is
