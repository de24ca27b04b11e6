use Rattle.law_handover_delivers.proofs.down_report_frames.Carried.{source_says, bits_later}
use Rattle.law_handover_delivers.proofs.down_report_frames.what_a_source_says_was_carried_up.Goals as goal

pub returns : goal.returns
returns c = record {
  source = λ u x p bearer came is at known. source_says u came x p bearer is at known;
  later = λ reached later status more bits. bits_later reached later status more bits;
}
