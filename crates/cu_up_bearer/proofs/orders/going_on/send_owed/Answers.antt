use Rattle.std.proofs.Common.{ap}
use Rattle.unit_defs.specs.CuUpRecords.{CuUpBearer}
use Rattle.unit_defs.specs.octet_defs.Units.{OctetAnswer}
use Rattle.unit_messages.specs.steps.Steps.{step_after}
use Rattle.cu_up_bearer.proofs.downlink.Sequels.{step_as}
use Rattle.cu_up_bearer.proofs.orders.Orders.{owes_all, owes_these}
use Rattle.cu_up_bearer.proofs.orders.going_on.send_owed.Goals as goal

pub returns-then-loss-clause-step : goal.returns-then-loss-clause-step
returns-then-loss-clause-step c = λ codec b.
    step_as _ _ _ _ _
    (ap (λ (x : OctetAnswer CuUpBearer). step_after c.args.out.now x) (owes_all codec c.args.at.now c.args.loss c.args.came.now b c.args.down.now c.if-loss.true))
    (c.send_unconfirmed.ensures.step codec b)

pub returns-clause-step : goal.returns-clause-step
returns-clause-step c = λ codec b.
    step_as _ _ _ _ _
    (ap (λ (x : OctetAnswer CuUpBearer). step_after c.args.out.now x) (owes_these codec c.args.at.now c.args.loss c.args.came.now b c.args.down.now c.if-loss.false))
    (c.send_these.ensures.step codec b)
