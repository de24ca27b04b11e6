use Rattle.std.proofs.Common.{refl, ap}
use Rattle.unit_defs.specs.octet_defs.Units.{OctetAnswer}
use Rattle.unit_defs.specs.CuUpRecords.{CuUpBearer}
use Rattle.unit_messages.specs.steps.Steps.{step_after}
use Rattle.cu_up_bearer.proofs.downlink.Sequels.{step_as}
use Rattle.cu_up_bearer.specs.bearers.Bearers.{kept}
use Rattle.cu_up_items.proofs.packets.Confirms.{reports}
use Rattle.cu_up_items.proofs.packets.confirming.take_report.Goals as goal

pub returns-clause-step : goal.returns-clause-step
returns-clause-step c = λ codec.
    let b = kept c.args.bearer.now in
    step_as _ _ _ _ _
    (ap (λ (x : OctetAnswer CuUpBearer). step_after c.args.out.now x)
    (reports codec c.args.at.now b c.confirm_report.new.self c.args.bearer.now.down.sending c.args.bearer.now.down.frames c.args.fmc c.args.bitmap.now
    refl c.confirm_report.ensures))
    (c.number_waiting.ensures.step codec b)
