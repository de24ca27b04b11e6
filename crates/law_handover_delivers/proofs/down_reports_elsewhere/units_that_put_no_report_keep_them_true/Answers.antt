use Rattle.law_handover_delivers.proofs.down_reports_elsewhere.Quiet.{quiet_keeps}
use Rattle.law_handover_delivers.proofs.down_reports_elsewhere.units_that_put_no_report_keep_them_true.Goals as goal

pub returns : goal.returns
returns c = quiet_keeps
