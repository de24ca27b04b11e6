use Rattle.proof_cu_up_orders.proofs.context_stands.Holds.{none_there, stays_standing}
use Rattle.proof_cu_up_orders.proofs.context_stands.bearers_stand_always.Goals as goal

pub returns : goal.returns
returns g c = record {
  at_the_start = λ gnb number ue bearer p there. none_there ue bearer p there;
  after = λ way r input order all. stays_standing way r input order all;
}
