use Rattle.std.proofs.Common.{List, ℕ, Option, refl, sym, ap, ◌∙◌, arith}
use Rattle.pdcp_defs.specs.Counts.{near_count, count_below}
use Rattle.unit_defs.specs.Ways.{fresh_item, numbered_item}
use Rattle.unit_defs.specs.CuUpRecords.{forwarding_up}
use Rattle.unit_defs.specs.CuUpItems.{took, took_fresh, took_numbered}
use Rattle.unit_defs.specs.octet_defs.Codec.{octet_way}
use Rattle.unit_messages.specs.steps.Steps.{step_after}
use Rattle.cu_up_bearer.specs.tunnels.Tunnels.{at_as}
use Rattle.cu_up_bearer.proofs.downlink.Sequels.{step_as}
use Rattle.cu_up_bearer.specs.bearers.Bearers.{kept}
use Rattle.cu_up_items.specs.items.Coming.{said, held_of}
use Rattle.cu_up_items.specs.declared.items.items.Kind.TheVariants as kinds
use Rattle.cu_up_items.specs.declared.items.items.CuUpItem.{CuUpItem}
use Rattle.cu_up_items.proofs.items.HeldTests.{room_down, room_up}
use Rattle.cu_up_items.proofs.items.taking.take_forwarded_up.Goals as goal

pub returns-in-Numbered-clause-step : goal.returns-in-Numbered-clause-step
unfolding took
returns-in-Numbered-clause-step c = λ codec.
    let b = kept c.args.bearer.now in
    step_as _ _ _ _ _
    (ap (λ (i : CuUpItem). step_after c.args.out.now (took (octet_way codec) (at_as c.args.at.now) forwarding_up c.args.teid (said c.args.at.now b kinds.ForwardingUp i) b)) c.in-Numbered.is)
    (c.take_uplink.ensures.step codec)

pub returns-in-End-clause-step : goal.returns-in-End-clause-step
unfolding took
returns-in-End-clause-step c = λ codec.
    let b = kept c.args.bearer.now in
    step_as _ _ _ _ _
    (ap (λ (i : CuUpItem). step_after c.args.out.now (took (octet_way codec) (at_as c.args.at.now) forwarding_up c.args.teid (said c.args.at.now b kinds.ForwardingUp i) b)) c.in-End.is)
    (c.end_up.ensures.step codec)

pub returns-in-Fresh-clause-step : goal.returns-in-Fresh-clause-step
unfolding took
returns-in-Fresh-clause-step c = λ codec.
    let b = kept c.args.bearer.now in
    step_as _ _ _ _ _
    (ap (λ (i : CuUpItem). step_after c.args.out.now (took (octet_way codec) (at_as c.args.at.now) forwarding_up c.args.teid (said c.args.at.now b kinds.ForwardingUp i) b)) c.in-Fresh.is)
    (c.drop_item.ensures b)

pub returns-in-Pdu-clause-step : goal.returns-in-Pdu-clause-step
unfolding took
returns-in-Pdu-clause-step c = λ codec.
    let b = kept c.args.bearer.now in
    step_as _ _ _ _ _
    (ap (λ (i : CuUpItem). step_after c.args.out.now (took (octet_way codec) (at_as c.args.at.now) forwarding_up c.args.teid (said c.args.at.now b kinds.ForwardingUp i) b)) c.in-Pdu.is)
    (c.drop_item-in-Pdu.ensures b)

pub returns-in-Status-clause-step : goal.returns-in-Status-clause-step
unfolding took
returns-in-Status-clause-step c = λ codec.
    let b = kept c.args.bearer.now in
    step_as _ _ _ _ _
    (ap (λ (i : CuUpItem). step_after c.args.out.now (took (octet_way codec) (at_as c.args.at.now) forwarding_up c.args.teid (said c.args.at.now b kinds.ForwardingUp i) b)) c.in-Status.is)
    (c.drop_item-in-Status.ensures b)

pub take_uplink-requires-clause-near : goal.take_uplink-requires-clause-near
take_uplink-requires-clause-near c = λ lives.
    let b = kept c.args.bearer.now in
    let free = sym (ap (λ (i : CuUpItem). held_of c.args.at.now b kinds.ForwardingUp i) c.in-Numbered.is) ∙ c.requires.free in
    room_up (at_as c.args.at.now) b forwarding_up (numbered_item (near_count c.args.at.now.sn c.args.bearer.now.receiving.receiver.deliv c.in-Numbered.number) c.in-Numbered.packet.now) free lives (near_count c.args.at.now.sn c.args.bearer.now.receiving.receiver.deliv c.in-Numbered.number) refl
