use Rattle.law_handover_delivers.proofs.downlink_path_steps.Ups.{cu_up_way}
use Rattle.law_handover_delivers.proofs.downlink_path_steps.a_cu_up_keeps_the_way.Goals as goal

pub returns : goal.returns
returns c = cu_up_way
