use Rattle.proof_unit_steps.specs.packets.Packets.{passes}
use Rattle.proof_unit_steps.proofs.node_packets.Terminals.{terminal_has}
use Rattle.proof_unit_steps.proofs.node_packets.a_terminal_puts_what_it_got.Goals as goal

pub returns : goal.returns
returns g c = λ way test ue u input p brings. terminal_has (passes test) ue u input p brings
