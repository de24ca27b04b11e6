use Rattle.std.proofs.Common.{◌+◌}
use Rattle.unit_defs.specs.CuUpRecords.{CuUpBearer}
use Rattle.proof_unit_steps.specs.receivers.Ready.{CuUpStores}
use Rattle.proof_unit_steps.proofs.receivers.Receivers.{each_above}
use Rattle.proof_unit_steps.proofs.receivers.CuUps.{cu_up_stores, found_in}
use Rattle.proof_unit_steps.proofs.receivers.a_cu_up_keeps_receivers.Goals as goal

pub returns-clause-keeps : goal.returns-clause-keeps
returns-clause-keeps g c = λ way r input p. cu_up_stores way r input p

pub returns-clause-above : goal.returns-clause-above
returns-clause-above g c = λ r p ue x is thawed bearer b has.
    each_above (b.receiver.deliv + 1) b.receiver.stored ((found_in (λ (y : CuUpBearer). CuUpStores x.flags y.receiver) x.bearers bearer b (p ue x is) has).above thawed)
