use Rattle.std.proofs.Common.{ap, sym, ◌∙◌}
use Rattle.unit_defs.specs.CuUpRecords.{CuUpBearer}
use Rattle.unit_defs.specs.octet_defs.Units.{OctetAnswer}
use Rattle.unit_messages.specs.steps.Steps.{step_after, stepped}
use Rattle.unit_messages.proofs.steps.StepLaws.{step_then}
use Rattle.cu_up_bearer.specs.declared.bearers.bearer.Bearer.{Bearer}
use Rattle.cu_up_bearer.specs.bearers.Bearers.{kept, with_receiver}
use Rattle.cu_up_bearer.proofs.downlink.Sequels.{step_as, goes_on, ends_with, nothing_more}
use Rattle.cu_up_bearer.proofs.orders.Orders.{delivering, known_row, knows, knows_not, to_tunnel, switches, delivers_nothing}
use Rattle.cu_up_bearer.proofs.orders.serving.switch.Goals as goal

pub returns-then-not-at-clause-step : goal.returns-then-not-at-clause-step
returns-then-not-at-clause-step c = λ codec.
    let a = c.args.at.now in
    let out = c.args.out.now in
    let t = c.thaw.new.bearer in
    let now = to_tunnel codec a c.args.du c.args.teid t in
    let none = c.requires.idle c.if-not-at.true in
    ap (λ (x : OctetAnswer CuUpBearer). step_after out x) (switches codec a c.args.du c.args.teid c.args.bearer.now t c.thaw.ensures)
    ∙ (step_then out out (delivering codec a now) (known_row codec a) now (delivers_nothing codec a out now t.receiving (ap (λ (x : Bearer). x.receiving.receiver.stored) c.thaw.ensures ∙ none.1))
    ∙ (ap (λ (x : OctetAnswer CuUpBearer). step_after out x) (knows_not codec a now c.if-not-at.true) ∙ nothing_more out now))

pub returns-in_err-deliver_stored-clause-step : goal.returns-in_err-deliver_stored-clause-step
returns-in_err-deliver_stored-clause-step c = λ codec.
    let a = c.args.at.now in
    let out = c.args.out.now in
    let t = c.thaw.new.bearer in
    let now = to_tunnel codec a c.args.du c.args.teid t in
    step_as _ _ _ _ _
    (ap (λ (x : OctetAnswer CuUpBearer). step_after out x) (switches codec a c.args.du c.args.teid c.args.bearer.now t c.thaw.ensures))
    (ends_with (Unit {0}) (Unit {0}) out (delivering codec a now) (known_row codec a) c.deliver_stored.new.out (with_receiver now c.deliver_stored.new.receiving)
    c.in_err-deliver_stored.field-0.0 (c.in_err-deliver_stored.ensures.step codec now) _ _ _ c.from_residual.ensures.1)

pub returns-clause-step : goal.returns-clause-step
returns-clause-step c = λ codec.
    let a = c.args.at.now in
    let out = c.args.out.now in
    let t = c.thaw.new.bearer in
    let now = to_tunnel codec a c.args.du c.args.teid t in
    let mid = with_receiver now c.deliver_stored.new.receiving in
    step_as _ _ _ _ _
    (ap (λ (x : OctetAnswer CuUpBearer). step_after out x) (switches codec a c.args.du c.args.teid c.args.bearer.now t c.thaw.ensures))
    (goes_on (Unit {0}) (Unit {0}) out (delivering codec a now) (known_row codec a) c.deliver_stored.new.out mid tt (c.in_ok-deliver_stored.ensures.step codec now) _ _ _
    (step_as _ _ _ _ _ (ap (λ (x : OctetAnswer CuUpBearer). step_after c.deliver_stored.new.out x) (knows codec a mid c.if-not-at.false)) (c.begin_known.ensures.step codec)))
