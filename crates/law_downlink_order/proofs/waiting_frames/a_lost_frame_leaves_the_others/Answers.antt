use Rattle.law_downlink_order.proofs.waiting_frames.Frames.{line_without}
use Rattle.law_downlink_order.proofs.waiting_frames.a_lost_frame_leaves_the_others.Goals as goal

pub returns : goal.returns
returns c = line_without
