use Rattle.std.proofs.Common.{ap}
use Rattle.unit_defs.specs.CuUpItems.{took}
use Rattle.unit_defs.specs.octet_defs.Codec.{octet_way}
use Rattle.unit_messages.specs.steps.Steps.{step_after}
use Rattle.cu_up_bearer.specs.tunnels.Tunnels.{at_as}
use Rattle.cu_up_bearer.proofs.downlink.Sequels.{step_as}
use Rattle.cu_up_bearer.specs.bearers.Bearers.{kept}
use Rattle.cu_up_items.specs.items.Items.{kind_as}
use Rattle.cu_up_items.specs.items.Coming.{said}
use Rattle.cu_up_items.specs.declared.items.items.Kind.{Kind}
use Rattle.cu_up_items.proofs.items.taking.take.Goals as goal

pub returns-in-N3-clause-step : goal.returns-in-N3-clause-step
returns-in-N3-clause-step c = λ codec.
    let b = kept c.args.bearer.now in
    step_as _ _ _ _ _
    (ap (λ (k : Kind). step_after c.args.out.now (took (octet_way codec) (at_as c.args.at.now) (kind_as k) c.args.teid (said c.args.at.now b k c.args.item.now) b)) c.in-N3.is)
    (c.take_n3.ensures.step codec)

pub returns-in-F1uUplink-clause-step : goal.returns-in-F1uUplink-clause-step
returns-in-F1uUplink-clause-step c = λ codec.
    let b = kept c.args.bearer.now in
    step_as _ _ _ _ _
    (ap (λ (k : Kind). step_after c.args.out.now (took (octet_way codec) (at_as c.args.at.now) (kind_as k) c.args.teid (said c.args.at.now b k c.args.item.now) b)) c.in-F1uUplink.is)
    (c.take_f1u.ensures.step codec)

pub returns-in-ForwardingDown-clause-step : goal.returns-in-ForwardingDown-clause-step
returns-in-ForwardingDown-clause-step c = λ codec.
    let b = kept c.args.bearer.now in
    step_as _ _ _ _ _
    (ap (λ (k : Kind). step_after c.args.out.now (took (octet_way codec) (at_as c.args.at.now) (kind_as k) c.args.teid (said c.args.at.now b k c.args.item.now) b)) c.in-ForwardingDown.is)
    (c.take_forwarded_down.ensures.step codec)

pub returns-in-ForwardingUp-clause-step : goal.returns-in-ForwardingUp-clause-step
returns-in-ForwardingUp-clause-step c = λ codec.
    let b = kept c.args.bearer.now in
    step_as _ _ _ _ _
    (ap (λ (k : Kind). step_after c.args.out.now (took (octet_way codec) (at_as c.args.at.now) (kind_as k) c.args.teid (said c.args.at.now b k c.args.item.now) b)) c.in-ForwardingUp.is)
    (c.take_forwarded_up.ensures.step codec)
