use Rattle.law_units_act_locally.proofs.cu_cp_interfaces.CuCps.{cu_cp_does}
use Rattle.law_units_act_locally.proofs.cu_cp_interfaces.a_cu_cp_keeps_to_its_interfaces.Goals as goal

pub returns : goal.returns
returns c = λ gnb r input own keeps is. cu_cp_does gnb r input is (own, keeps)
