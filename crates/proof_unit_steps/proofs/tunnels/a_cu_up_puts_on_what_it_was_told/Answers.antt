use Rattle.proof_unit_steps.specs.tunnel_names.Names.{by_test}
use Rattle.proof_unit_steps.proofs.tunnels.CuUps.{cu_up_names}
use Rattle.proof_unit_steps.proofs.tunnels.a_cu_up_puts_on_what_it_was_told.Goals as goal

pub returns : goal.returns
returns g c = λ way test gnb number r input none p names. cu_up_names (by_test test) none gnb number r input names p
