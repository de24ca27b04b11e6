-- The octets so far and the bitmap of the bits that are left make the whole report.
use Rattle.std.proofs.Common.{◌≡◌, ◌++◌}
use Rattle.std.specs.Slice.Iter.{chunks_rest, chunks_size}
use Rattle.pdcp.specs.Pdus.{bitmap, report_octets}
use Rattle.pdcp.proofs.pdu.write_report.Given as goal

abbrev pub invariant-loop-eight : goal.invariant-loop-eight
invariant-loop-eight l = record {
  report : l.octets ++ bitmap (chunks_rest l.eight-iterator) ≡ report_octets l.fn.fmc l.fn.bits;
  size : chunks_size l.eight-iterator ≡ 8;
}
