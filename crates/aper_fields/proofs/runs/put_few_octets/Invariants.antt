use Rattle.std.proofs.Common.{◌≡◌, ◌++◌, false, take}
use Rattle.bits_core.specs.Bits.{octet_bits}
use Rattle.aper_fields.proofs.runs.put_few_octets.Given as goal

abbrev pub invariant-loop-octet : goal.invariant-loop-octet
invariant-loop-octet l = record {
  going : l.out.failed ≡ false;
  bits : l.out.bits ≡ l.fn.out.bits ++ octet_bits (take l.octet-index l.octets);
}
