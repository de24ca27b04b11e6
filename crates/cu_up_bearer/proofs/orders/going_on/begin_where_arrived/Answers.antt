use Rattle.std.proofs.Common.{ap, ◌∙◌}
use Rattle.unit_defs.specs.CuUpRecords.{CuUpBearer}
use Rattle.unit_defs.specs.CuUpBearers.{begin_downlink, bits_in}
use Rattle.unit_defs.specs.octet_defs.Codec.{octet_way}
use Rattle.unit_defs.specs.octet_defs.Units.{OctetAnswer}
use Rattle.unit_messages.specs.steps.Steps.{step_after}
use Rattle.cu_up_bearer.specs.tunnels.Tunnels.{at_as}
use Rattle.cu_up_bearer.specs.bearers.Bearers.{kept, with_receiver}
use Rattle.cu_up_bearer.proofs.downlink.Sequels.{step_as, goes_on, ends_with, nothing_more}
use Rattle.cu_up_bearer.proofs.orders.Orders.{delivering, arrives, arrives_not}
use Rattle.cu_up_bearer.proofs.orders.going_on.begin_where_arrived.Goals as goal

pub returns-then-not-at-clause-step : goal.returns-then-not-at-clause-step
returns-then-not-at-clause-step c = λ codec.
    let b = kept c.args.bearer.now in
    ap (λ (x : OctetAnswer CuUpBearer). step_after c.args.out.now x) (arrives_not codec c.args.at.now c.args.status.now b c.if-not-at.true)
    ∙ nothing_more c.args.out.now b

pub returns-in_err-deliver_stored-clause-step : goal.returns-in_err-deliver_stored-clause-step
returns-in_err-deliver_stored-clause-step c = λ codec.
    let a = c.args.at.now in
    let b = kept c.args.bearer.now in
    let s = c.args.status.now in
    step_as _ _ _ _ _
    (ap (λ (x : OctetAnswer CuUpBearer). step_after c.args.out.now x) (arrives codec a s b c.if-not-at.false))
    (ends_with (Unit {0}) (Unit {0}) c.args.out.now (delivering codec a b) (begin_downlink (octet_way codec) (at_as a) s.ul_first (bits_in s.ul_received))
    c.deliver_stored.new.out (with_receiver b c.deliver_stored.new.receiving)
    c.in_err-deliver_stored.field-0.0 (c.in_err-deliver_stored.ensures.step codec b) _ _ _ c.from_residual.ensures.1)

pub returns-clause-step : goal.returns-clause-step
returns-clause-step c = λ codec.
    let a = c.args.at.now in
    let b = kept c.args.bearer.now in
    let s = c.args.status.now in
    let mid = with_receiver b c.deliver_stored.new.receiving in
    step_as _ _ _ _ _
    (ap (λ (x : OctetAnswer CuUpBearer). step_after c.args.out.now x) (arrives codec a s b c.if-not-at.false))
    (goes_on (Unit {0}) (Unit {0}) c.args.out.now (delivering codec a b) (begin_downlink (octet_way codec) (at_as a) s.ul_first (bits_in s.ul_received))
    c.deliver_stored.new.out mid tt (c.in_ok-deliver_stored.ensures.step codec b) _ _ _ (c.begin_with.ensures.step codec mid))
