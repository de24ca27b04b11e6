use Rattle.law_handover_delivers.proofs.assumptions.Worked.{worked}
use Rattle.law_handover_delivers.proofs.assumptions.a_worked_freeze_leads_there.Goals as goal

pub returns : goal.returns
returns c = λ reading n. worked reading n
