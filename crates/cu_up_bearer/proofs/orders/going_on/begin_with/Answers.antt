use Rattle.std.proofs.Common.{Bool, List, Option, sym, ap, ◌∙◌}
use Rattle.unit_defs.specs.CuUpRecords.{CuUpBearer}
use Rattle.unit_defs.specs.CuUpBearers.{bits_in}
use Rattle.unit_messages.specs.steps.Steps.{step_after}
use Rattle.cu_up_bearer.specs.downlink.Downlinks.{with_down}
use Rattle.cu_up_bearer.proofs.downlink.Sequels.{step_as}
use Rattle.cu_up_bearer.proofs.orders.Orders.{beginning}
use Rattle.cu_up_bearer.proofs.orders.going_on.begin_with.Goals as goal

pub returns-in-Some-clause-step : goal.returns-in-Some-clause-step
returns-in-Some-clause-step c = λ codec b.
    let old = with_down b c.args.down.now in
    step_as _ _ _ _ _
    (ap (λ (o : Option (List Bool)). step_after c.args.out.now (beginning codec c.args.at.now c.args.status.now.ul_first (bits_in o) old)) c.in-Some.is)
    (c.begin_downlink.ensures.step codec b)

pub returns-in-None-clause-step : goal.returns-in-None-clause-step
returns-in-None-clause-step c = λ codec b.
    let old = with_down b c.args.down.now in
    step_as _ _ _ _ _
    (ap (λ (o : Option (List Bool)). step_after c.args.out.now (beginning codec c.args.at.now c.args.status.now.ul_first (bits_in o) old)) c.in-None.is
    ∙ ap (λ (bs : List Bool). step_after c.args.out.now (beginning codec c.args.at.now c.args.status.now.ul_first bs old)) (sym c.new.ensures))
    (c.begin_downlink-in-None-2.ensures.step codec b)
