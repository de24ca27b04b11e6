use Rattle.std.proofs.Common.{ℕ, arith, ◌-◌, ◌/◌, ◌%◌, ◌^◌, ap, refl, ◌∙◌}
use Rattle.bits_core.proofs.ReaderLemmas.{ahead, part_is}
use Rattle.bits_core.proofs.reader.BitReader.take_some.Goals as goal

pub bounds-self-inside-self-inside : goal.bounds-self-inside-self-inside
bounds-self-inside-self-inside c =
    omega (arith, ahead c.self.inside.octets.now c.self.inside.place c.args.most c.args.self.now c.self.view_is c.requires.most)

pub overflow_add-self : goal.overflow_add-self
overflow_add-self c =
    omega (arith, ahead c.self.inside.octets.now c.self.inside.place c.args.most c.args.self.now c.self.view_is c.requires.most)

pub invariant_of-self : goal.invariant_of-self
invariant_of-self c = (
  c.self.invariant.0,
  omega (arith, ahead c.self.inside.octets.now c.self.inside.place c.args.most c.args.self.now c.self.view_is c.requires.most),
)

pub returns-clause-value : goal.returns-clause-value
returns-clause-value c =
    part_is c.self.inside.octets.now c.self.inside.place c.min-count.result (8 - c.self.inside.place % 8 - c.min-count.result) c.low_bits.result c.args.self.now c.self.view_is
    (omega (arith, ahead c.self.inside.octets.now c.self.inside.place c.args.most c.args.self.now c.self.view_is c.requires.most))
    (omega arith) refl
    (c.low_bits.ensures ∙ ap (λ (o : ℕ). o / 2 ^ (8 - c.self.inside.place % 8 - c.min-count.result) % 2 ^ c.min-count.result) c.from-2.ensures)
