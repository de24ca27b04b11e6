use Rattle.proof_unit_steps.specs.tunnel_names.Names.{by_test}
use Rattle.proof_unit_steps.proofs.downlink_names.CuCps.{cu_cp_goes}
use Rattle.proof_unit_steps.proofs.downlink_names.a_cu_cp_names_a_downlink_once.Goals as goal

pub returns : goal.returns
returns g c = λ way same test t s r input names told has given. cu_cp_goes t way same (by_test test) s r input names told has given
