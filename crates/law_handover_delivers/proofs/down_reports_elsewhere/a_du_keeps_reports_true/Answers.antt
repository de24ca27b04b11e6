use Rattle.law_handover_delivers.proofs.down_reports_elsewhere.Dus.{du_keeps}
use Rattle.law_handover_delivers.proofs.down_reports_elsewhere.a_du_keeps_reports_true.Goals as goal

pub returns : goal.returns
returns c = du_keeps
