use Rattle.std.proofs.Common.{ap, ◌∙◌}
use Rattle.unit_defs.specs.CuUpRecords.{CuUpBearer}
use Rattle.unit_defs.specs.octet_defs.Units.{OctetAnswer}
use Rattle.unit_messages.specs.steps.Steps.{step_after}
use Rattle.cu_up_bearer.specs.downlink.Downlinks.{with_down}
use Rattle.cu_up_bearer.proofs.downlink.Sequels.{nothing_more, step_as}
use Rattle.cu_up_bearer.proofs.downlink.Numberings.{waits_frozen, waits_released, waits_closed, serves}
use Rattle.cu_up_bearer.proofs.downlink.down.DownSide.number_waiting.Goals as goal
use Rattle.cu_up_bearer.proofs.downlink.down.DownSide.number_waiting.Goals.{then-at-via-then-at, then-at-via-else-at+then-at-2}

pub returns-then-at-clause-step : goal.returns-then-at-clause-step
returns-then-at-clause-step c = λ codec b.
    let stops = λ (x : OctetAnswer CuUpBearer). step_after c.args.out.now x in
    elim c.then-at.branch [
      | then-at-via-then-at w ↦
          ap stops (waits_frozen codec c.args.at.now b c.args.self.now w.if-at.true) ∙ nothing_more c.args.out.now (with_down b c.args.self.now)
      | then-at-via-else-at+then-at-2 w ↦
          ap stops (waits_released codec c.args.at.now b c.args.self.now w.if-at-2.true) ∙ nothing_more c.args.out.now (with_down b c.args.self.now)
    ]

pub returns-in_default-clause-step : goal.returns-in_default-clause-step
returns-in_default-clause-step c = λ codec b.
    ap (λ (x : OctetAnswer CuUpBearer). step_after c.args.out.now x) (waits_closed codec c.args.at.now b c.args.self.now c.in_default.is)
    ∙ nothing_more c.args.out.now (with_down b c.args.self.now)

pub returns-clause-step : goal.returns-clause-step
returns-clause-step c = λ codec b.
    step_as _ _ _ _ _
    (ap (λ (x : OctetAnswer CuUpBearer). step_after c.args.out.now x)
    (serves codec c.args.at.now b c.args.self.now _ c.if-at.false c.if-at-2.false c.in-Some.is))
    (c.number_each.ensures.step codec b)
