use Rattle.proof_unit_steps.specs.tunnel_names.Names.{by_test}
use Rattle.proof_unit_steps.proofs.tunnel_names.Cores.{core_names}
use Rattle.proof_unit_steps.proofs.tunnel_names.the_core_names_what_it_was_told.Goals as goal

pub returns : goal.returns
returns g c = λ way test r from message p names. core_names (by_test test) r from message names p
