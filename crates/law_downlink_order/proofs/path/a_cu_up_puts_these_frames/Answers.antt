use Rattle.law_downlink_order.proofs.path.Rows.{puts_a_frame, sends_packets, sends_anew, sends_after_a_loss}
use Rattle.law_downlink_order.proofs.path.a_cu_up_puts_these_frames.Goals as goal

pub returns : goal.returns
returns c = record {
  one = λ way at poll restart pdu tag b. puts_a_frame way at poll restart pdu tag b;
  packets = λ way at packets b. sends_packets way at packets b;
  anew = λ way at fmc bits b. sends_anew way at fmc bits b;
  after_a_loss = λ way at lost b. sends_after_a_loss way at lost b;
}
