use Rattle.std.proofs.Common.{◌≡◌, ◌+◌, ℕ, [], ◌∷◌, ◌++◌, length, length-append, sym, ap, ◌∙◌, subst, arith}
use Rattle.packet_pool.proofs.RegionLemmas.{AreLinked, linked_none, linked_push, chain_new, region_new}
use Rattle.packet_pool.proofs.region.Region.new.Goals as goal

pub loop-number-init : goal.loop-number-init
loop-number-init c = record {
  size = ap length c.in_ok-blocks.ensures.items;
  linked = linked_none _ c.in_ok-blocks.ensures.items;
}

pub loop-number-preserved : goal.loop-number-preserved
loop-number-preserved c =
    let items : c.push.new.self.items ≡ c.loop-number.blocks.items ++ c.linked.result ∷ [] = c.in_ok-push.ensures.items in
    let size : length c.push.new.self.items ≡ c.loop-number.number + 1 =
    ap length items ∙ length-append _ _ ∙ ap (λ (n : ℕ). n + 1) c.loop-number.invariant.size in
    record {
      size = size;
      linked =
          subst AreLinked (sym items)
          (linked_push _ _ c.loop-number.invariant.linked (c.linked.ensures ∙ ap (λ (n : ℕ). n + 1) (sym c.loop-number.invariant.size)));
    }

pub invariant_of-result : goal.invariant_of-result
invariant_of-result c =
    region_new _ _ c.loop-number.invariant.linked (omega (arith, c.loop-number.invariant.size)) c.requires

pub returns-clause-free : goal.returns-clause-free
returns-clause-free c =
    let size : length c.loop-number.blocks.items ≡ c.args.count = omega (arith, c.loop-number.invariant.size) in
    chain_new _ 0 _ c.loop-number.invariant.linked (omega (arith, size))
