use Rattle.law_handover_delivers.proofs.downlink_path_steps.Dus.{du_way}
use Rattle.law_handover_delivers.proofs.downlink_path_steps.a_du_keeps_the_way.Goals as goal

pub returns : goal.returns
returns c = du_way
