use Rattle.std.proofs.Common.{refl, ap}
use Rattle.unit_defs.specs.CuUpRecords.{CuUpBearer}
use Rattle.unit_defs.specs.octet_defs.Units.{OctetAnswer}
use Rattle.unit_messages.specs.steps.Steps.{step_after}
use Rattle.cu_up_bearer.proofs.downlink.Sequels.{step_as}
use Rattle.cu_up_bearer.specs.bearers.Bearers.{kept}
use Rattle.cu_up_items.proofs.uplinks.Uplinks.{keeps_frozen, keeps_thawed}
use Rattle.cu_up_items.proofs.uplinks.taking.keep.Goals as goal

pub returns-then-at-clause-step : goal.returns-then-at-clause-step
returns-then-at-clause-step c = λ codec.
    let b = kept c.args.bearer.now in
    step_as _ _ _ _ _
    (ap (λ (x : OctetAnswer CuUpBearer). step_after c.args.out.now x)
    (keeps_frozen codec c.args.at.now b c.args.packet.now c.args.count c.if-at.true))
    (c.pass_counted.ensures codec b refl)

pub returns-clause-step : goal.returns-clause-step
returns-clause-step c = λ codec.
    let b = kept c.args.bearer.now in
    step_as _ _ _ _ _
    (ap (λ (x : OctetAnswer CuUpBearer). step_after c.args.out.now x)
    (keeps_thawed codec c.args.at.now b c.args.packet.now c.args.count c.if-at.false))
    (c.deliver_stored.ensures.step codec b)
