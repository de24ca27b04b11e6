use Rattle.proof_unit_steps.specs.tunnel_names.Names.{by_test}
use Rattle.proof_unit_steps.proofs.tunnels.Dus.{du_names}
use Rattle.proof_unit_steps.proofs.tunnels.a_du_puts_on_what_it_was_told.Goals as goal

pub returns : goal.returns
returns g c = λ way test gnb number r input p names. du_names (by_test test) gnb number r input names p
