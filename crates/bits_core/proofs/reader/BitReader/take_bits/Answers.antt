use Rattle.std.proofs.Common.{ℕ, arith, refl, ap, take, ◌-◌, ◌≡◌, ◌∙◌}
use Rattle.bits_core.specs.Bits.{number_of}
use Rattle.bits_core.specs.Reading.{bits_left, moved}
use Rattle.bits_core.proofs.ReaderLemmas.{bits_left_of, moved_none, moved_more, none_taken, number_more, number_fits, taken_small}
use Rattle.bits_core.proofs.reader.BitReader.take_bits.Goals as goal

pub returns-then-self-from : goal.returns-then-self-from
returns-then-self-from c = (omega (arith, bits_left_of c.self.inside.octets.now c.self.inside.place c.args.self.now c.self.view_is), refl)

pub loop-left-init : goal.loop-left-init
loop-left-init c = record {
  most = omega arith;
  enough = omega (arith, bits_left_of c.self.inside.octets.now c.self.inside.place c.args.self.now c.self.view_is);
  value = none_taken _ _ (omega arith);
  moves = moved_none c.args.self.now _ (omega arith);
}

pub overflow_add-number : goal.overflow_add-number
overflow_add-number c =
    omega (
      arith,
      number_fits (bits_left c.args.self.now) (c.args.width - (c.loop-left.left - c.take_some-part.result.1)) _
          (number_more c.args.self.now c.loop-left.self (c.args.width - c.loop-left.left) c.take_some-part.result.1 _ c.loop-left.number c.take_some-part.result.0 c.loop-left.invariant.moves (omega (arith, c.loop-left.invariant.enough)) (omega arith) c.loop-left.invariant.value c.take_some-part.ensures.value (omega arith)) (omega arith),
    )

pub loop-left-preserved : goal.loop-left-preserved
loop-left-preserved c = record {
  most = omega arith;
  enough = c.loop-left.invariant.enough;
  value = number_more c.args.self.now c.loop-left.self (c.args.width - c.loop-left.left) c.take_some-part.result.1 _ c.loop-left.number c.take_some-part.result.0 c.loop-left.invariant.moves (omega (arith, c.loop-left.invariant.enough)) (omega arith) c.loop-left.invariant.value c.take_some-part.ensures.value (omega arith);
  moves = moved_more c.args.self.now c.loop-left.self _ (c.args.width - c.loop-left.left) c.take_some-part.result.1 _ c.loop-left.invariant.moves c.take_some-part.ensures.moves (omega arith);
}

pub returns : goal.returns
returns c =
    let all : c.args.width - c.loop-left.left ≡ c.args.width = omega arith in
    let value : c.loop-left.number ≡ number_of (take c.args.width (bits_left c.args.self.now)) =
    c.loop-left.invariant.value ∙ ap (λ (n : ℕ). number_of (take n (bits_left c.args.self.now))) all in
    record {
      enough = c.loop-left.invariant.enough;
      value = value;
      small = omega (arith, value, taken_small (bits_left c.args.self.now) c.args.width);
      moves = c.loop-left.invariant.moves ∙ ap (λ (n : ℕ). moved c.args.self.now n) all;
    }
