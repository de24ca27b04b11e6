use Rattle.std.proofs.Common.{ap, sym, ◌∙◌}
use Rattle.unit_defs.specs.CuUpRecords.{CuUpBearer}
use Rattle.unit_defs.specs.octet_defs.Units.{OctetAnswer}
use Rattle.unit_messages.specs.steps.Steps.{step_after}
use Rattle.cu_up_bearer.specs.declared.downlink.down.DownSide.{DownSide}
use Rattle.cu_up_bearer.specs.downlink.Downlinks.{with_down}
use Rattle.cu_up_bearer.proofs.downlink.Sequels.{step_as}
use Rattle.cu_up_bearer.proofs.orders.Chains.{first_fails, second_fails, third_goes}
use Rattle.cu_up_bearer.proofs.orders.Orders.{report, again, numbering, begins}
use Rattle.cu_up_bearer.proofs.orders.serving.begin_downlink.Goals as goal

pub returns-in_err-send_report-clause-step : goal.returns-in_err-send_report-clause-step
returns-in_err-send_report-clause-step c = λ codec b.
    let a = c.args.at.now in
    let old = with_down b c.args.down.now in
    let d : DownSide = record c.args.down.now { frames = c.send_report.new.self } in
    step_as _ _ _ _ _
    (ap (λ (x : OctetAnswer CuUpBearer). step_after c.args.out.now x) (begins codec a c.args.fmc c.args.bits.now old))
    (first_fails c.args.out.now (report codec a c.args.fmc c.args.bits.now old) (again codec a) (numbering codec a) c.send_report.new.out (with_down b d)
    c.in_err-send_report.field-0.0 (c.in_err-send_report.ensures codec old) _ _ _ c.from_residual.ensures.1)

pub returns-in_err-send_unconfirmed-clause-step : goal.returns-in_err-send_unconfirmed-clause-step
returns-in_err-send_unconfirmed-clause-step c = λ codec b.
    let a = c.args.at.now in
    let old = with_down b c.args.down.now in
    let d : DownSide = record c.args.down.now { frames = c.send_report.new.self } in
    step_as _ _ _ _ _
    (ap (λ (x : OctetAnswer CuUpBearer). step_after c.args.out.now x) (begins codec a c.args.fmc c.args.bits.now old))
    (second_fails c.args.out.now (report codec a c.args.fmc c.args.bits.now old) (again codec a) (numbering codec a) c.send_report.new.out (with_down b d)
    (c.in_ok-send_report.ensures codec old) c.send_unconfirmed.new.out (with_down b c.send_unconfirmed.new.self)
    c.in_err-send_unconfirmed.field-0.0 (c.in_err-send_unconfirmed.ensures.step codec b) _ _ _ c.from_residual-in_err-send_unconfirmed.ensures.1)

pub returns-clause-step : goal.returns-clause-step
returns-clause-step c = λ codec b.
    let a = c.args.at.now in
    let old = with_down b c.args.down.now in
    let d : DownSide = record c.args.down.now { frames = c.send_report.new.self } in
    step_as _ _ _ _ _
    (ap (λ (x : OctetAnswer CuUpBearer). step_after c.args.out.now x) (begins codec a c.args.fmc c.args.bits.now old))
    (third_goes c.args.out.now (report codec a c.args.fmc c.args.bits.now old) (again codec a) (numbering codec a) c.send_report.new.out (with_down b d)
    (c.in_ok-send_report.ensures codec old) c.send_unconfirmed.new.out (with_down b c.send_unconfirmed.new.self) (c.in_ok-send_unconfirmed.ensures.step codec b) _ _ _
    (c.number_waiting.ensures.step codec b))
