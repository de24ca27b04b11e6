use Rattle.proof_unit_steps.specs.packets.Packets.{passes}
use Rattle.proof_unit_steps.proofs.node_packets.Dus.{du_has}
use Rattle.proof_unit_steps.proofs.node_packets.a_du_puts_what_it_got.Goals as goal

pub returns : goal.returns
returns g c = λ way test r input brings. du_has (passes test) r input brings
