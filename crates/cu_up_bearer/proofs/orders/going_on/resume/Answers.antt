use Rattle.std.proofs.Common.{◌≡◌, Ok, sym, ap, ◌∙◌, subst}
use Rattle.unit_defs.specs.CuUpRecords.{CuUpBearer}
use Rattle.unit_defs.specs.CuUpBearers.{thawed}
use Rattle.unit_defs.specs.octet_defs.Units.{OctetAnswer}
use Rattle.unit_messages.specs.steps.Steps.{step_after, IsStep}
use Rattle.cu_up_bearer.specs.downlink.Downlinks.{with_down}
use Rattle.cu_up_bearer.specs.declared.bearers.bearer.Bearer.{Bearer}
use Rattle.cu_up_bearer.specs.bearers.Bearers.{kept, with_receiver}
use Rattle.cu_up_bearer.proofs.downlink.Sequels.{step_as}
use Rattle.cu_up_bearer.proofs.orders.Chains.{first_fails, second_fails, third_goes}
use Rattle.cu_up_bearer.proofs.orders.Orders.{owing_these, delivering, numbering, resumes}
use Rattle.cu_up_bearer.proofs.orders.going_on.resume.Goals as goal

pub returns-in_err-send_owed-clause-step : goal.returns-in_err-send_owed-clause-step
returns-in_err-send_owed-clause-step c = λ codec.
    let a = c.args.at.now in
    let b = kept c.args.bearer.now in
    let came = c.as_slice-came.result.now in
    step_as _ _ _ _ _
    (ap (λ (x : OctetAnswer CuUpBearer). step_after c.args.out.now x) (resumes codec a b came c.as_slice-came.ensures))
    (first_fails c.args.out.now (owing_these codec a b came) (delivering codec a) (numbering codec a) c.send_owed.new.out (with_down (thawed b) c.send_owed.new.down)
    c.in_err-send_owed.field-0.0 (c.in_err-send_owed.ensures.step codec (thawed b)) _ _ _ c.from_residual.ensures.1)

pub returns-in_err-deliver_stored-clause-step : goal.returns-in_err-deliver_stored-clause-step
returns-in_err-deliver_stored-clause-step c = λ codec.
    let a = c.args.at.now in
    let b = kept c.args.bearer.now in
    let came = c.as_slice-came.result.now in
    let t = c.thaw.new.bearer in
    let same = ap (λ (x : Bearer). kept x) c.thaw.ensures in
    step_as _ _ _ _ _
    (ap (λ (x : OctetAnswer CuUpBearer). step_after c.args.out.now x) (resumes codec a b came c.as_slice-came.ensures))
    (second_fails c.args.out.now (owing_these codec a b came) (delivering codec a) (numbering codec a) c.send_owed.new.out (kept t)
    (subst (λ (x : CuUpBearer). IsStep {X = Unit {0}} (step_after c.args.out.now (owing_these codec a b came)) c.send_owed.new.out x (Ok tt)) (sym same)
    (c.in_ok-send_owed.ensures.step codec (thawed b)))
    c.deliver_stored.new.out (with_receiver (kept t) c.deliver_stored.new.receiving) c.in_err-deliver_stored.field-0.0
    (c.in_err-deliver_stored.ensures.step codec (kept t)) _ _ _ c.from_residual-in_err-deliver_stored.ensures.1)

pub returns-clause-step : goal.returns-clause-step
returns-clause-step c = λ codec.
    let a = c.args.at.now in
    let b = kept c.args.bearer.now in
    let came = c.as_slice-came.result.now in
    let t = c.thaw.new.bearer in
    let same = ap (λ (x : Bearer). kept x) c.thaw.ensures in
    let mid = with_receiver (kept t) c.deliver_stored.new.receiving in
    step_as _ _ _ _ _
    (ap (λ (x : OctetAnswer CuUpBearer). step_after c.args.out.now x) (resumes codec a b came c.as_slice-came.ensures))
    (third_goes c.args.out.now (owing_these codec a b came) (delivering codec a) (numbering codec a) c.send_owed.new.out (kept t)
    (subst (λ (x : CuUpBearer). IsStep {X = Unit {0}} (step_after c.args.out.now (owing_these codec a b came)) c.send_owed.new.out x (Ok tt)) (sym same)
    (c.in_ok-send_owed.ensures.step codec (thawed b)))
    c.deliver_stored.new.out mid (c.in_ok-deliver_stored.ensures.step codec (kept t)) _ _ _ (c.number_waiting.ensures.step codec mid))
