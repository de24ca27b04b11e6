use Rattle.std.proofs.Common.{◌≡◌, ◌-◌, ◌++◌, length}
use Rattle.bits_core.specs.Bits.{bits_of}
use Rattle.aper_frames.proofs.heads.flags.bits_of.Given as goal

abbrev pub invariant-loop-done : goal.invariant-loop-done
invariant-loop-done l = record {
  bits : l.bits.items ++ bits_of (l.count - l.done) l.number ≡ bits_of l.count l.number;
  size : length l.bits.items ≡ l.done;
}
