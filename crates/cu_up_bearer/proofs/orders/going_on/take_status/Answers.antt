use Rattle.std.proofs.Common.{ap}
use Rattle.unit_defs.specs.CuUpRecords.{CuUpBearer}
use Rattle.unit_defs.specs.octet_defs.Units.{OctetAnswer}
use Rattle.unit_messages.specs.steps.Steps.{step_after}
use Rattle.cu_up_bearer.proofs.downlink.Sequels.{step_as}
use Rattle.cu_up_bearer.proofs.orders.Orders.{takes_status}
use Rattle.cu_up_bearer.proofs.orders.going_on.take_status.Goals as goal

pub returns-clause-step : goal.returns-clause-step
returns-clause-step c = λ codec.
    step_as _ _ _ _ _
    (ap (λ (x : OctetAnswer CuUpBearer). step_after c.args.out.now x)
    (takes_status codec c.args.at.now c.args.status.now c.args.bearer.now c.go_on_at.new.bearer c.requires.empty c.in_ok-go_on_at.ensures))
    (c.begin_where_arrived.ensures.step codec)
