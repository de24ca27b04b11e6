use Rattle.std.proofs.Common.{◌+◌}
use Rattle.unit_defs.specs.Ue.{UeBearer}
use Rattle.proof_unit_steps.specs.receivers.Ready.{StoresAbove}
use Rattle.proof_unit_steps.proofs.receivers.Receivers.{each_above}
use Rattle.proof_unit_steps.proofs.receivers.CuUps.{found_in}
use Rattle.proof_unit_steps.proofs.receivers.Terminals.{terminal_stores}
use Rattle.proof_unit_steps.proofs.receivers.a_terminal_keeps_receivers.Goals as goal

pub returns-clause-keeps : goal.returns-clause-keeps
returns-clause-keeps g c = λ way u input p. terminal_stores way u input p

pub returns-clause-above : goal.returns-clause-above
returns-clause-above g c = λ u p bearer b has.
    each_above (b.receiver.deliv + 1) b.receiver.stored (found_in (λ (y : UeBearer). StoresAbove y.receiver) u.bearers bearer b p has)
