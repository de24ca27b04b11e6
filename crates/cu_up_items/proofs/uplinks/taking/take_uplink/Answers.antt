use Rattle.std.proofs.Common.{◌≡◌, ℕ, Option, Some, None, false, sym, ap, ◌∙◌, subst}
use Rattle.gnb_types.specs.declared.names.SnBits.{SnBits}
use Rattle.gnb_types.specs.declared.reasons.DropReason.TheVariants.{Duplicate}
use Rattle.pdcp_defs.specs.Counts.{near_count}
use Rattle.pdcp_defs.specs.Receivers.{is_ahead}
use Rattle.unit_defs.specs.Ways.{drops}
use Rattle.unit_defs.specs.CuUpRecords.{CuUpBearer}
use Rattle.unit_defs.specs.CuUpItems.{is_ahead_if}
use Rattle.unit_defs.specs.octet_defs.Codec.{octet_way}
use Rattle.unit_defs.specs.octet_defs.Units.{OctetAnswer}
use Rattle.unit_messages.specs.steps.Steps.{step_after}
use Rattle.pdcp_bearers.specs.ue_bearers.Receivers.{ReceiverState, received}
use Rattle.cu_up_bearer.specs.tunnels.Tunnels.{at_as}
use Rattle.cu_up_bearer.proofs.downlink.Sequels.{step_as}
use Rattle.cu_up_bearer.specs.bearers.Bearers.{kept, with_receiver}
use Rattle.cu_up_items.specs.uplinks.Storing.{kept_at}
use Rattle.cu_up_items.proofs.uplinks.Uplinks.{uplink_none, uplink_released, uplink_duplicate, uplink_stored, with_state, Facts, facts, kept_up}
use Rattle.cu_up_items.proofs.uplinks.taking.take_uplink.Goals as goal

pub returns-in_default-clause-step : goal.returns-in_default-clause-step
returns-in_default-clause-step c = λ codec.
    let b = kept c.args.bearer.now in
    let old = c.args.bearer.now.receiving in
    let o = near_count c.args.at.now.sn old.receiver.deliv c.args.number in
    let seen = sym (ap (λ (k : SnBits). near_count k old.receiver.deliv c.args.number) c.requires.of.1.0) ∙ sym c.count_of.ensures in
    step_as _ _ _ _ _
    (ap (λ (x : OctetAnswer CuUpBearer). step_after c.args.out.now x) (uplink_none codec c.args.at.now b c.args.packet.now o (seen ∙ c.in_default.is)))
    (c.drop_item.ensures b)

pub returns-then-at-clause-step : goal.returns-then-at-clause-step
returns-then-at-clause-step c = λ codec.
    let b = kept c.args.bearer.now in
    let old = c.args.bearer.now.receiving in
    let o = near_count c.args.at.now.sn old.receiver.deliv c.args.number in
    let seen = sym (ap (λ (k : SnBits). near_count k old.receiver.deliv c.args.number) c.requires.of.1.0) ∙ sym c.count_of.ensures in
    step_as _ _ _ _ _
    (ap (λ (x : OctetAnswer CuUpBearer). step_after c.args.out.now x)
    (uplink_released codec c.args.at.now b c.args.packet.now o c.in-Some.count (seen ∙ c.in-Some.is) c.if-at.true))
    (c.pass_up.ensures codec)

pub returns-in-Stored-clause-step : goal.returns-in-Stored-clause-step
returns-in-Stored-clause-step c = λ codec.
    let b = kept c.args.bearer.now in
    let old = c.args.bearer.now.receiving in
    let o = near_count c.args.at.now.sn old.receiver.deliv c.args.number in
    let seen = sym (ap (λ (k : SnBits). near_count k old.receiver.deliv c.args.number) c.requires.of.1.0) ∙ sym c.count_of.ensures in
    let found = seen ∙ c.in-Some.is in
    let count = c.in-Some.count in
    let p = c.args.packet.now in
    let came : with_state c.take.result c.take.new.self ≡ received old (Some count) p =
    c.take.ensures ∙ ap (λ (x : Option ℕ). received old x p) (sym c.count_of.ensures ∙ c.in-Some.is) in
    let near : is_ahead old.quota old.receiver count ≡ false =
    ap (λ (n : ℕ). is_ahead n old.receiver count) c.requires.of.1.1
    ∙ sym (ap (λ (x : Option ℕ). is_ahead_if (at_as c.args.at.now) b x) found) ∙ c.requires.near c.if-at.false in
    let f = subst (Facts old c.take.new.self count p) c.in-Stored.is (facts old c.take.new.self count p c.take.result came near) in
    step_as _ _ _ _ _
    (ap (λ (x : OctetAnswer CuUpBearer). step_after c.args.out.now x) (uplink_stored codec c.args.at.now b p o count found c.if-at.false f.0)
    ∙ ap (λ (d : ReceiverState). step_after c.args.out.now (kept_at (octet_way codec) (at_as c.args.at.now) count p (with_receiver b d))) (sym f.1))
    (c.keep.ensures.step codec)

pub returns-in-Duplicate-clause-step : goal.returns-in-Duplicate-clause-step
returns-in-Duplicate-clause-step c = λ codec.
    let b = kept c.args.bearer.now in
    let old = c.args.bearer.now.receiving in
    let o = near_count c.args.at.now.sn old.receiver.deliv c.args.number in
    let seen = sym (ap (λ (k : SnBits). near_count k old.receiver.deliv c.args.number) c.requires.of.1.0) ∙ sym c.count_of.ensures in
    let found = seen ∙ c.in-Some.is in
    let count = c.in-Some.count in
    let p = c.args.packet.now in
    let came : with_state c.take.result c.take.new.self ≡ received old (Some count) p =
    c.take.ensures ∙ ap (λ (x : Option ℕ). received old x p) (sym c.count_of.ensures ∙ c.in-Some.is) in
    let near : is_ahead old.quota old.receiver count ≡ false =
    ap (λ (n : ℕ). is_ahead n old.receiver count) c.requires.of.1.1
    ∙ sym (ap (λ (x : Option ℕ). is_ahead_if (at_as c.args.at.now) b x) found) ∙ c.requires.near c.if-at.false in
    let f = subst (Facts old c.take.new.self count p) c.in-Duplicate.is (facts old c.take.new.self count p c.take.result came near) in
    step_as _ _ _ _ _
    (ap (λ (x : OctetAnswer CuUpBearer). step_after c.args.out.now x) (uplink_duplicate codec c.args.at.now b p o count found c.if-at.false f.0)
    ∙ ap (λ (d : ReceiverState). step_after c.args.out.now (drops Duplicate (with_receiver b d))) (sym f.1))
    (c.drop_item-in-Duplicate.ensures (with_receiver b c.take.new.self))

pub keep-requires-clause-of : goal.keep-requires-clause-of
keep-requires-clause-of c =
    let b = kept c.args.bearer.now in
    let old = c.args.bearer.now.receiving in
    let o = near_count c.args.at.now.sn old.receiver.deliv c.args.number in
    let seen = sym (ap (λ (k : SnBits). near_count k old.receiver.deliv c.args.number) c.requires.of.1.0) ∙ sym c.count_of.ensures in
    let found = seen ∙ c.in-Some.is in
    let count = c.in-Some.count in
    let p = c.args.packet.now in
    let came : with_state c.take.result c.take.new.self ≡ received old (Some count) p =
    c.take.ensures ∙ ap (λ (x : Option ℕ). received old x p) (sym c.count_of.ensures ∙ c.in-Some.is) in
    let near : is_ahead old.quota old.receiver count ≡ false =
    ap (λ (n : ℕ). is_ahead n old.receiver count) c.requires.of.1.1
    ∙ sym (ap (λ (x : Option ℕ). is_ahead_if (at_as c.args.at.now) b x) found) ∙ c.requires.near c.if-at.false in
    let f = subst (Facts old c.take.new.self count p) c.in-Stored.is (facts old c.take.new.self count p c.take.result came near) in
    (c.requires.of.0, kept_up old c.take.new.self count p c.args.at.now c.requires.of.1 c.requires.packet f.1)
