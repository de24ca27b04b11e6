use Rattle.law_handover_delivers.proofs.down_report_frames.Frames.{order_true}
use Rattle.law_handover_delivers.proofs.down_report_frames.rows_report_what_is_asked.Goals as goal

pub returns : goal.returns
returns c = λ reached p order told. order_true reached p order told
