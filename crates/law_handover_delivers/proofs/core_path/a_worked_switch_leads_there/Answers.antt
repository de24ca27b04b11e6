use Rattle.law_handover_delivers.proofs.core_path.Worked.{worked}
use Rattle.law_handover_delivers.proofs.core_path.a_worked_switch_leads_there.Goals as goal

pub returns : goal.returns
returns c = λ reading n. worked reading n
