use Rattle.proof_unit_steps.specs.tunnel_names.Names.{by_test}
use Rattle.proof_unit_steps.proofs.tunnel_names.CuCps.{cu_cp_names}
use Rattle.proof_unit_steps.proofs.tunnel_names.a_cu_cp_names_what_it_was_told.Goals as goal

pub returns : goal.returns
returns g c = λ way test gnb r input p names. cu_cp_names (by_test test) gnb r input names p
