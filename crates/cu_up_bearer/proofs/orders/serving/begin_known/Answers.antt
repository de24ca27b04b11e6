use Rattle.std.proofs.Common.{ap, sym, ◌∙◌}
use Rattle.unit_defs.specs.CuUpRecords.{CuUpBearer}
use Rattle.unit_defs.specs.octet_defs.Units.{OctetAnswer}
use Rattle.unit_messages.specs.steps.Steps.{step_after}
use Rattle.pdcp_defs.specs.Receivers.{received_bits}
use Rattle.cu_up_bearer.specs.bearers.Bearers.{kept}
use Rattle.cu_up_bearer.proofs.downlink.Sequels.{step_as}
use Rattle.cu_up_bearer.proofs.orders.Orders.{begins_as}
use Rattle.cu_up_bearer.proofs.orders.serving.begin_known.Goals as goal

pub returns-clause-step : goal.returns-clause-step
returns-clause-step c = λ codec.
    let b = kept c.args.bearer.now in
    let r = c.args.bearer.now.receiving.receiver in
    let report = c.in_ok-fmc.ensures.ok in
    step_as _ _ _ _ _
    (ap (λ (x : OctetAnswer CuUpBearer). step_after c.args.out.now x) (begins_as codec c.args.at.now r.deliv _ (received_bits r) _ b report.0 report.1))
    (c.begin_downlink.ensures.step codec b)
