use Rattle.law_handover_delivers.proofs.assumptions.Hops.{freeze_leads}
use Rattle.law_handover_delivers.proofs.assumptions.a_freeze_leads_there.Goals as goal

pub returns : goal.returns
returns c = λ n ue bearer units to peer down up owned. freeze_leads n ue bearer units owned to peer down up
