use Rattle.std.proofs.Common.{◌≡◌, ◌==◌, ◌<◌, length, take, sym, ap, ◌∙◌, subst}
use Rattle.std.specs.List.{count_by}
use Rattle.packet_pool.specs.inside.Regions.{RegionState, octets_at}
use Rattle.packet_pool.proofs.RegionLemmas.{chain_written, region_written, octets_set, octets_set_other}
use Rattle.packet_pool.proofs.region.Region.write.Goals as goal

pub invariant_of-self : goal.invariant_of-self
invariant_of-self c =
    region_written _ _ _ _ _ c.self.invariant
    (subst (λ (s : RegionState). count_by (λ m. m == c.args.number) s.free ≡ 0) (sym c.self.view_is) c.requires.used)

pub returns-clause-free : goal.returns-clause-free
returns-clause-free c =
    chain_written _ _ _ _ _
    (subst (λ (s : RegionState). count_by (λ m. m == c.args.number) s.free ≡ 0) (sym c.self.view_is) c.requires.used)
    ∙ ap (λ (s : RegionState). s.free) c.self.view_is

pub returns-clause-written : goal.returns-clause-written
returns-clause-written c =
    ap (take (length c.args.bytes.now))
    (octets_set _ _ _ (subst (λ (s : RegionState). c.args.number < length s.blocks) (sym c.self.view_is) c.requires.within))
    ∙ c.write.ensures

pub returns-clause-others : goal.returns-clause-others
returns-clause-others c n other =
    octets_set_other _ _ _ n other ∙ ap (λ (s : RegionState). octets_at s.blocks n) c.self.view_is
