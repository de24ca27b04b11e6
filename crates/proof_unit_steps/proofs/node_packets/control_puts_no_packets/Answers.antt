use Rattle.proof_unit_steps.specs.packets.Packets.{passes}
use Rattle.proof_unit_steps.proofs.node_packets.Controls.{cu_cp_has, core_has}
use Rattle.proof_unit_steps.proofs.node_packets.control_puts_no_packets.Goals as goal

pub returns-clause-cu_cp : goal.returns-clause-cu_cp
returns-clause-cu_cp g c = λ way test r input. cu_cp_has (passes test) r input

pub returns-clause-core : goal.returns-clause-core
returns-clause-core g c = λ way test r from message. core_has (passes test) r from message
