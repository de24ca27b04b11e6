use Rattle.std.proofs.Common.{◌≡◌, ◌≤◌, ◌++◌, false}
use Rattle.bits_core.specs.Bits.{bits_of}
use Rattle.bits_core.proofs.writer.BitWriter.put_bits.Given as goal

abbrev pub invariant-loop-left : goal.invariant-loop-left
invariant-loop-left l = record {
  was : l.fn.self.failed ≡ false;
  going : l.self.failed ≡ false;
  most : l.left ≤ 64;
  puts : l.self.bits ++ bits_of l.left l.value ≡ l.fn.self.bits ++ bits_of l.width l.value;
}

abbrev pub decreases-loop-left : goal.decreases-loop-left
decreases-loop-left l = l.left
