use Rattle.std.proofs.Common.{refl}
use Rattle.law_requests_act_once.proofs.cu_cp_deadlines.Acts.{cu_cp_keeps, first_fits}
use Rattle.law_requests_act_once.proofs.cu_cp_deadlines.a_cu_cp_keeps_deadlines.Goals as goal

pub returns : goal.returns
returns g c = record {
  first = λ gnb. first_fits gnb;
  next = λ way r input h. cu_cp_keeps way r.gnb r input (h, refl);
}
