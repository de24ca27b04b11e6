use Rattle.law_downlink_order.proofs.path.Rows.{takes_a_frame}
use Rattle.law_downlink_order.proofs.path.a_du_takes_a_frame.Goals as goal

pub returns : goal.returns
returns c = record { takes = λ way ue bearer at b r f. takes_a_frame way ue bearer at b r f }
