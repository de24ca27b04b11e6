use Rattle.proof_cu_up_orders.proofs.frames_kept.First.{first_begins}
use Rattle.proof_cu_up_orders.proofs.frames_kept.a_first_context_begins.Goals as goal

pub returns : goal.returns
returns g c = λ way ue bearer sn quota instance teid to end du waits. first_begins way ue bearer sn quota instance teid to end du waits
