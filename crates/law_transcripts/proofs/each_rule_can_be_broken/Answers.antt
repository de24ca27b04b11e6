use Rattle.law_transcripts.proofs.Worked.{breaks_form, breaks_wire, breaks_packet, breaks_count, breaks_order, breaks_seen, breaks_spelling, breaks_end}
use Rattle.law_transcripts.proofs.each_rule_can_be_broken.Goals as goal

pub returns : goal.returns
returns c = record {
  form = breaks_form;
  wire = breaks_wire;
  packet = breaks_packet;
  count = breaks_count;
  order = breaks_order;
  seen = breaks_seen;
  spelling = breaks_spelling;
  end = breaks_end;
}
