use Rattle.law_downlink_order.proofs.waiting_frames.Frames.{line_later, line_taken}
use Rattle.law_downlink_order.proofs.waiting_frames.they_are_so_later.Goals as goal

pub returns : goal.returns
returns c = record { later = line_later; taken = line_taken }
