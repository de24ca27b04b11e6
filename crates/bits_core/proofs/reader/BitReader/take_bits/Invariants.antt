use Rattle.std.proofs.Common.{◌≡◌, ◌≤◌, ◌-◌, length, take}
use Rattle.bits_core.specs.Bits.{number_of}
use Rattle.bits_core.specs.Reading.{bits_left, moved}
use Rattle.bits_core.proofs.reader.BitReader.take_bits.Given as goal

abbrev pub invariant-loop-left : goal.invariant-loop-left
invariant-loop-left l = record {
  most : l.left ≤ l.width;
  enough : l.width ≤ length (bits_left l.fn.self);
  value : l.number ≡ number_of (take (l.width - l.left) (bits_left l.fn.self));
  moves : l.self ≡ moved l.fn.self (l.width - l.left);
}

abbrev pub decreases-loop-left : goal.decreases-loop-left
decreases-loop-left l = l.left
