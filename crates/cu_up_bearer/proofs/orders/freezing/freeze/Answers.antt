use Rattle.std.proofs.Common.{ap, refl, ◌∙◌}
use Rattle.unit_defs.specs.CuUpRecords.{CuUpBearer}
use Rattle.unit_defs.specs.octet_defs.Units.{OctetAnswer}
use Rattle.unit_messages.specs.steps.Steps.{step_after}
use Rattle.cu_up_bearer.proofs.orders.Orders.{freezes}
use Rattle.cu_up_bearer.proofs.orders.freezing.freeze.Goals as goal

pub returns-clause-step : goal.returns-clause-step
returns-clause-step c = λ codec.
    ap (λ (x : OctetAnswer CuUpBearer). step_after c.args.out.now x)
    (freezes codec c.args.at.now c.args.hop c.args.bearer.now c.thaw.new.bearer c.requires.new c.thaw.ensures)
    ∙ c.in_ok-give_all.ensures codec refl
