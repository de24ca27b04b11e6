use Rattle.std.proofs.Common.{◌≡◌, ◌++◌, false, take}
use Rattle.aper_fields.proofs.runs.put_bit_run.Given as goal

abbrev pub invariant-loop-bit : goal.invariant-loop-bit
invariant-loop-bit l = record {
  going : l.out.failed ≡ false;
  bits : l.out.bits ≡ l.fn.out.bits ++ take l.bit-index l.bits;
}
