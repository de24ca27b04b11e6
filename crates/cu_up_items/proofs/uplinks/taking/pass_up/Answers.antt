use Rattle.std.proofs.Common.{refl, ap}
use Rattle.unit_defs.specs.CuUpRecords.{CuUpBearer}
use Rattle.unit_defs.specs.octet_defs.Units.{OctetAnswer}
use Rattle.unit_messages.specs.steps.Steps.{step_after}
use Rattle.cu_up_bearer.proofs.downlink.Sequels.{step_as}
use Rattle.cu_up_bearer.specs.bearers.Bearers.{kept}
use Rattle.cu_up_items.proofs.uplinks.Uplinks.{passes_before, passes_late}
use Rattle.cu_up_items.proofs.uplinks.taking.pass_up.Goals as goal

pub returns-then-count-awaited : goal.returns-then-count-awaited
returns-then-count-awaited c = λ codec.
    let b = kept c.args.bearer.now in
    step_as _ _ _ _ _
    (ap (λ (x : OctetAnswer CuUpBearer). step_after c.args.out.now x)
    (passes_before codec c.args.at.now b c.args.packet.now c.args.count c.awaited.result c.awaited.ensures c.if-count-awaited.true))
    (c.drop_item.ensures b)

pub returns : goal.returns
returns c = λ codec.
    let b = kept c.args.bearer.now in
    step_as _ _ _ _ _
    (ap (λ (x : OctetAnswer CuUpBearer). step_after c.args.out.now x)
    (passes_late codec c.args.at.now b c.args.packet.now c.args.count c.awaited.result c.awaited.ensures c.if-count-awaited.false))
    (c.pass_counted.ensures codec b refl)
