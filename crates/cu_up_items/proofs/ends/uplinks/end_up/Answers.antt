use Rattle.std.proofs.Common.{ap}
use Rattle.unit_defs.specs.CuUpRecords.{CuUpBearer}
use Rattle.unit_defs.specs.octet_defs.Units.{OctetAnswer}
use Rattle.unit_messages.specs.steps.Steps.{step_after}
use Rattle.cu_up_bearer.proofs.downlink.Sequels.{step_as}
use Rattle.cu_up_bearer.specs.bearers.Bearers.{kept}
use Rattle.cu_up_items.proofs.ends.UplinkEnds.{up_twice, up_once}
use Rattle.cu_up_items.proofs.ends.uplinks.end_up.Goals as goal

pub returns-then-bearer-clause-step : goal.returns-then-bearer-clause-step
returns-then-bearer-clause-step c = λ codec.
    let b = kept c.args.bearer.now in
    step_as _ _ _ _ _
    (ap (λ (x : OctetAnswer CuUpBearer). step_after c.args.out.now x) (up_twice codec c.args.at.now b c.if-bearer.true))
    (c.drop_item.ensures b)

pub returns-clause-step : goal.returns-clause-step
returns-clause-step c = λ codec.
    let b = kept c.args.bearer.now in
    step_as _ _ _ _ _
    (ap (λ (x : OctetAnswer CuUpBearer). step_after c.args.out.now x) (up_once codec c.args.at.now b c.if-bearer.false))
    (c.end_hop_up.ensures.step codec)
