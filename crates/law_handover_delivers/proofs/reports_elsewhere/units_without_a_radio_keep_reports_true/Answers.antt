use Rattle.law_handover_delivers.proofs.reports_elsewhere.Quiet.{quiet_keeps}
use Rattle.law_handover_delivers.proofs.reports_elsewhere.units_without_a_radio_keep_reports_true.Goals as goal

pub returns : goal.returns
returns c = quiet_keeps
