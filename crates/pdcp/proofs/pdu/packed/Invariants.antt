-- The octet so far and the bits that are left make the whole octet, and the worth of the next bit is free.
use Rattle.std.proofs.Common.{◌≡◌, ◌≤◌, ◌+◌, ◌*◌, drop}
use Rattle.pdcp.specs.Pdus.{bits_from, octet_of}
use Rattle.pdcp.proofs.pdu.packed.Given as goal

abbrev pub invariant-loop-bit : goal.invariant-loop-bit
invariant-loop-bit l = record {
  whole : l.octet + bits_from l.worth (drop l.bit-index l.bits) ≡ octet_of l.bits;
  free : l.octet + 2 * l.worth ≤ 256;
}
