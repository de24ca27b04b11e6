use Rattle.std.proofs.Common.{ℕ, List, sym, ap, ◌∙◌}
use Rattle.pdcp.specs.Pdus.{content_of}
use Rattle.pdcp_defs.specs.Counts.{near_count}
use Rattle.unit_defs.specs.Ways.{uplink_item}
use Rattle.unit_defs.specs.CuUpRecords.{f1u_uplink}
use Rattle.unit_defs.specs.CuUpItems.{took, took_delivery_status}
use Rattle.unit_defs.specs.octet_defs.Codec.{octet_way}
use Rattle.unit_defs.specs.octet_defs.Reading.{content_by, count_confirmed}
use Rattle.unit_messages.specs.steps.Steps.{step_after}
use Rattle.cu_up_bearer.specs.tunnels.Tunnels.{at_as}
use Rattle.cu_up_bearer.proofs.downlink.Sequels.{step_as}
use Rattle.cu_up_bearer.specs.bearers.Bearers.{kept}
use Rattle.cu_up_items.specs.items.Coming.{said, held_of}
use Rattle.cu_up_items.specs.declared.items.items.Kind.TheVariants as kinds
use Rattle.cu_up_items.specs.declared.items.items.CuUpItem.{CuUpItem}
use Rattle.cu_up_items.proofs.items.HeldTests.{has_room}
use Rattle.cu_up_items.proofs.items.taking.take_f1u.Goals as goal

pub take_pdu-requires-clause-free : goal.take_pdu-requires-clause-free
take_pdu-requires-clause-free c = λ lives.
    let b = kept c.args.bearer.now in
    let a = c.args.at.now in
    let free = sym (ap (λ (i : CuUpItem). held_of a b kinds.F1uUplink i) c.in-Pdu.is) ∙ c.requires.free in
    has_room (at_as a) b f1u_uplink (uplink_item (content_by (near_count a.sn c.args.bearer.now.receiving.receiver.deliv) (content_of c.in-Pdu.content))) free lives

pub returns-in-Pdu-clause-step : goal.returns-in-Pdu-clause-step
unfolding took
returns-in-Pdu-clause-step c = λ codec.
    let b = kept c.args.bearer.now in
    step_as _ _ _ _ _
    (ap (λ (i : CuUpItem). step_after c.args.out.now (took (octet_way codec) (at_as c.args.at.now) f1u_uplink c.args.teid (said c.args.at.now b kinds.F1uUplink i) b)) c.in-Pdu.is)
    (c.take_pdu.ensures.step codec)

pub returns-in-Status-clause-step : goal.returns-in-Status-clause-step
unfolding took
returns-in-Status-clause-step c = λ codec.
    let b = kept c.args.bearer.now in
    step_as _ _ _ _ _
    (ap (λ (i : CuUpItem). step_after c.args.out.now (took (octet_way codec) (at_as c.args.at.now) f1u_uplink c.args.teid (said c.args.at.now b kinds.F1uUplink i) b)) c.in-Status.is
    ∙ ap (λ (ls : List (ℕ × ℕ)). step_after c.args.out.now (took_delivery_status (octet_way codec) (at_as c.args.at.now) ls (count_confirmed c.args.at.now.sn b c.in-Status.delivered) b)) (sym c.as_slice.ensures))
    (c.take_delivery_status.ensures.step codec)

pub returns-in-End-clause-step : goal.returns-in-End-clause-step
unfolding took
returns-in-End-clause-step c = λ codec.
    let b = kept c.args.bearer.now in
    step_as _ _ _ _ _
    (ap (λ (i : CuUpItem). step_after c.args.out.now (took (octet_way codec) (at_as c.args.at.now) f1u_uplink c.args.teid (said c.args.at.now b kinds.F1uUplink i) b)) c.in-End.is)
    (c.end_uplink.ensures.step codec)

pub returns-in-Fresh-clause-step : goal.returns-in-Fresh-clause-step
unfolding took
returns-in-Fresh-clause-step c = λ codec.
    let b = kept c.args.bearer.now in
    step_as _ _ _ _ _
    (ap (λ (i : CuUpItem). step_after c.args.out.now (took (octet_way codec) (at_as c.args.at.now) f1u_uplink c.args.teid (said c.args.at.now b kinds.F1uUplink i) b)) c.in-Fresh.is)
    (c.drop_item.ensures b)

pub returns-in-Numbered-clause-step : goal.returns-in-Numbered-clause-step
unfolding took
returns-in-Numbered-clause-step c = λ codec.
    let b = kept c.args.bearer.now in
    step_as _ _ _ _ _
    (ap (λ (i : CuUpItem). step_after c.args.out.now (took (octet_way codec) (at_as c.args.at.now) f1u_uplink c.args.teid (said c.args.at.now b kinds.F1uUplink i) b)) c.in-Numbered.is)
    (c.drop_item-in-Numbered.ensures b)
