use Rattle.std.proofs.Common.{◌^◌, ℕ, ◌-◌, ◌∙◌, ap, arith, ◌++◌, List, Bool}
use Rattle.std.proofs.lemmas.Grind.{common_steps}
use Rattle.bits_core.specs.Bits.{bits_of}
use Rattle.bits_core.specs.Writing.{Written}
use Rattle.bits_core.proofs.WriterLemmas.{begun_below, put_after, full_octet}
use Rattle.bits_core.proofs.writer.BitWriter.put_some.Goals as goal

pub overflow_cast-self-inside : goal.overflow_cast-self-inside
overflow_cast-self-inside c =
    let w = c.self.inside in
    omega (arith, begun_below w.last w.used c.min-count.result c.low_bits.result (c.args.left - c.min-count.result) c.args.value c.self.invariant.last (omega arith) c.low_bits.ensures, ap (λ (n : ℕ). 2 ^ n) c.if-self-eq8.true)

pub invariant_of-self-else-self-eq8 : goal.invariant_of-self-else-self-eq8
invariant_of-self-else-self-eq8 c = record { used = omega arith; last = begun_below c.self.inside.last c.self.inside.used c.min-count.result c.low_bits.result (c.args.left - c.min-count.result) c.args.value c.self.invariant.last (omega arith) c.low_bits.ensures; room = λ _. grind (arith, common_steps) }

pub returns-then-self-eq8 : goal.returns-then-self-eq8
returns-then-self-eq8 c = (
  omega arith,
  ap (λ (o : Written). o.failed) c.self.view_is ∙ c.requires.going,
  ap (λ (bits : List Bool). bits ++ bits_of (c.args.left - c.min-count.result) c.args.value) (full_octet _ _ _ _ (grind (arith, common_steps)) c.if-self-eq8.true)
      ∙ put_after c.self.inside c.args.self.now _ c.min-count.result (c.args.left - c.min-count.result) c.args.left c.args.value c.low_bits.result c.self.view_is c.make_room.ensures.items c.self.invariant.last (omega arith) c.low_bits.ensures (omega arith),
)

pub returns-else-self-eq8 : goal.returns-else-self-eq8
returns-else-self-eq8 c = (
  omega arith,
  ap (λ (o : Written). o.failed) c.self.view_is ∙ c.requires.going,
  put_after c.self.inside c.args.self.now _ c.min-count.result (c.args.left - c.min-count.result) c.args.left c.args.value c.low_bits.result c.self.view_is c.make_room.ensures.items c.self.invariant.last (omega arith) c.low_bits.ensures (omega arith),
)
