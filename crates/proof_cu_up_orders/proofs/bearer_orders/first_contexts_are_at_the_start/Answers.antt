use Rattle.proof_cu_up_orders.proofs.bearer_orders.Starts.{made_down, made_up, set_up_starts}
use Rattle.proof_cu_up_orders.proofs.bearer_orders.first_contexts_are_at_the_start.Goals as goal

pub returns : goal.returns
returns g c = record {
  made_down = λ sn quota first teid ue bearer instance. made_down sn quota first teid ue bearer instance;
  made_up = λ sn quota first teid ue bearer instance. made_up sn quota first teid ue bearer instance;
  set_up = λ r plan next ue bearer first p there. set_up_starts r plan next ue bearer first p there;
}
