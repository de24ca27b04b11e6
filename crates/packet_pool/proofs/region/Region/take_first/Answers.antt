use Rattle.std.proofs.Common.{◌≤◌, ◌<◌, ◌-◌, ◌∷◌, ℕ, length, sym, ap, ◌∙◌, subst, arith}
use Rattle.packet_pool.specs.inside.Regions.{RegionState, link, chain}
use Rattle.packet_pool.proofs.RegionLemmas.{some_free, chain_next, first_within, region_taken, octets_got}
use Rattle.packet_pool.proofs.region.Region.take_first.Goals as goal

pub index-block-requires : goal.index-block-requires
index-block-requires c =
    let some : 1 ≤ c.self.inside.free = some_free _ _ _ _ (ap (λ (s : RegionState). s.free) c.self.view_is) c.requires in
    let within : c.self.inside.first < length c.self.inside.blocks.items = first_within _ _ _ c.self.invariant some in
    omega (arith, within)

pub overflow_sub-self : goal.overflow_sub-self
overflow_sub-self c = some_free _ _ _ _ (ap (λ (s : RegionState). s.free) c.self.view_is) c.requires

pub invariant_of-self : goal.invariant_of-self
invariant_of-self c =
    let some : 1 ≤ c.self.inside.free = some_free _ _ _ _ (ap (λ (s : RegionState). s.free) c.self.view_is) c.requires in
    let within : c.self.inside.first < length c.self.inside.blocks.items = first_within _ _ _ c.self.invariant some in
    region_taken _ _ _ _ c.self.invariant some
    (c.next-self-inside.ensures ∙ sym (ap link (octets_got _ _ _ within c.index-block.ensures)))

pub returns-clause-first : goal.returns-clause-first
returns-clause-first c =
    let some : 1 ≤ c.self.inside.free = some_free _ _ _ _ (ap (λ (s : RegionState). s.free) c.self.view_is) c.requires in
    let within : c.self.inside.first < length c.self.inside.blocks.items = first_within _ _ _ c.self.invariant some in
    sym (ap (λ (s : RegionState). s.free) c.self.view_is) ∙ chain_next _ _ _ some
    ∙ ap (λ (k : ℕ). c.self.inside.first ∷ chain c.self.inside.blocks.items k (c.self.inside.free - 1))
    (ap link (octets_got _ _ _ within c.index-block.ensures) ∙ sym c.next-self-inside.ensures)

pub returns-clause-within : goal.returns-clause-within
returns-clause-within c =
    let some : 1 ≤ c.self.inside.free = some_free _ _ _ _ (ap (λ (s : RegionState). s.free) c.self.view_is) c.requires in
    let within : c.self.inside.first < length c.self.inside.blocks.items = first_within _ _ _ c.self.invariant some in
    subst (λ (s : RegionState). c.self.inside.first < length s.blocks) c.self.view_is within
