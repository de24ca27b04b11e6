use Rattle.proof_unit_steps.specs.packets.Packets.{passes}
use Rattle.proof_unit_steps.proofs.packets.CuUps.{cu_up_has}
use Rattle.proof_unit_steps.proofs.packets.a_cu_up_puts_what_it_got.Goals as goal

pub returns : goal.returns
returns g c = λ way test r input p brings. cu_up_has (passes test) r input p brings
