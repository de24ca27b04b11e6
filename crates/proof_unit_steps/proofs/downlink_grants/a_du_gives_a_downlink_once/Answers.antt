use Rattle.proof_unit_steps.proofs.downlink_grants.Dus.{du_goes}
use Rattle.proof_unit_steps.proofs.downlink_grants.a_du_gives_a_downlink_once.Goals as goal

pub returns : goal.returns
returns g c = λ way same passes t s r input keeps. du_goes t way same passes s r input keeps
