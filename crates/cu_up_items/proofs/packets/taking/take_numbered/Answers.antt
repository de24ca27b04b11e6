use Rattle.std.proofs.Common.{◌≡◌, ℕ, Bool, true, false, List, [], ◌∷◌, ◌++◌, refl, sym, ap, ◌∙◌}
use Rattle.gnb_types.specs.declared.names.Dir.TheVariants.{Dl}
use Rattle.gnb_types.specs.declared.names.SnBits.{SnBits}
use Rattle.gnb_types.specs.declared.outputs.Tag.TheVariants.{Absent, Same}
use Rattle.gnb_types.specs.declared.reasons.DropReason.TheVariants.{Duplicate}
use Rattle.pdcp_defs.specs.Senders.{may_restore}
use Rattle.unit_defs.specs.Ways.{fresh, numbered, drops}
use Rattle.unit_defs.specs.CuUpRecords.{CuUpBearer}
use Rattle.unit_defs.specs.CuUpBearers.{sent, number_waiting}
use Rattle.unit_defs.specs.octet_defs.Codec.{octet_way}
use Rattle.unit_defs.specs.octet_defs.Units.{OctetAnswer}
use Rattle.unit_messages.specs.steps.Steps.{step_after, stepped}
use Rattle.pdcp_bearers.specs.ue_bearers.Senders.{SenderState, restoring}
use Rattle.cu_up_bearer.specs.tunnels.Tunnels.{at_as}
use Rattle.cu_up_bearer.specs.downlink.Downlinks.{with_down}
use Rattle.cu_up_bearer.proofs.downlink.Sequels.{step_as}
use Rattle.cu_up_bearer.proofs.downlink.Numberings.{side}
use Rattle.cu_up_bearer.specs.bearers.Bearers.{kept}
use Rattle.cu_up_items.specs.packets.Passing.{passed_on}
use Rattle.cu_up_items.proofs.packets.Takes.{numbered_none, numbered_released, numbered_refused, numbered_sent, numbered_frozen}
use Rattle.cu_up_items.proofs.packets.taking.take_numbered.Goals as goal

pub returns-in_default-clause-step : goal.returns-in_default-clause-step
returns-in_default-clause-step c = λ codec.
    let b = kept c.args.bearer.now in
    step_as _ _ _ _ _
    (ap (λ (x : OctetAnswer CuUpBearer). step_after c.args.out.now x)
    (numbered_none codec c.args.at.now b c.args.packet.now c.args.count c.in_default.is))
    (c.drop_item.ensures b)

pub returns-then-at-clause-step : goal.returns-then-at-clause-step
returns-then-at-clause-step c = λ codec.
    let b = kept c.args.bearer.now in
    step_as _ _ _ _ _
    (ap (λ (x : OctetAnswer CuUpBearer). step_after c.args.out.now x)
    (numbered_released codec c.args.at.now b c.args.packet.now c.args.count c.in-Some.count c.in-Some.is c.if-at.true))
    (c.pass_counted.ensures codec b refl)

pub returns-then-not-restore-clause-step : goal.returns-then-not-restore-clause-step
returns-then-not-restore-clause-step c = λ codec.
    let b = kept c.args.bearer.now in
    let old = c.args.bearer.now.down.sending in
    let count = c.in-Some.count in
    let may : may_restore c.args.at.now.sn c.args.at.now.quota old.sender count ≡ c.restore.result =
    sym (c.restore.ensures.answer ∙ ap (λ (k : SnBits). may_restore k old.quota old.sender count) c.requires.of.0.0
    ∙ ap (λ (n : ℕ). may_restore c.args.at.now.sn n old.sender count) c.requires.of.0.1) in
    let keeps = c.restore.ensures.kept ∙ ap (λ (t : Bool). restoring old count c.args.packet.now t) c.if-not-restore.true in
    step_as _ _ _ _ _
    (ap (λ (x : OctetAnswer CuUpBearer). step_after c.args.out.now x)
    (numbered_refused codec c.args.at.now b c.args.packet.now c.args.count count c.in-Some.is c.if-at.false (may ∙ c.if-not-restore.true))
    ∙ ap (λ (u : SenderState). step_after c.args.out.now (drops Duplicate (with_down b (side u c.args.bearer.now.down.frames)))) (sym keeps))
    (c.drop_item-then-not-restore.ensures (with_down b (side c.restore.new.self c.args.bearer.now.down.frames)))

pub returns-then-not-at-clause-step : goal.returns-then-not-at-clause-step
returns-then-not-at-clause-step c = λ codec.
    let b = kept c.args.bearer.now in
    let old = c.args.bearer.now.down.sending in
    let count = c.in-Some.count in
    let may : may_restore c.args.at.now.sn c.args.at.now.quota old.sender count ≡ c.restore.result =
    sym (c.restore.ensures.answer ∙ ap (λ (k : SnBits). may_restore k old.quota old.sender count) c.requires.of.0.0
    ∙ ap (λ (n : ℕ). may_restore c.args.at.now.sn n old.sender count) c.requires.of.0.1) in
    let keeps = c.restore.ensures.kept ∙ ap (λ (t : Bool). restoring old count c.args.packet.now t) c.if-not-restore.false in
    step_as _ _ _ _ _
    (ap (λ (x : OctetAnswer CuUpBearer). step_after c.args.out.now x)
    (numbered_sent codec c.args.at.now b c.args.packet.now c.args.count count c.in-Some.is c.if-at.false (may ∙ c.if-not-restore.false) c.if-not-at.true)
    ∙ ap (λ (u : SenderState). step_after c.args.out.now (sent (octet_way codec) (at_as c.args.at.now) count c.args.packet.now Same (with_down b (side u c.args.bearer.now.down.frames)))) (sym keeps))
    (c.send.ensures codec (with_down b (side c.restore.new.self c.args.bearer.now.down.frames)))

pub returns-clause-step : goal.returns-clause-step
returns-clause-step c = λ codec.
    let b = kept c.args.bearer.now in
    let old = c.args.bearer.now.down.sending in
    let count = c.in-Some.count in
    let may : may_restore c.args.at.now.sn c.args.at.now.quota old.sender count ≡ c.restore.result =
    sym (c.restore.ensures.answer ∙ ap (λ (k : SnBits). may_restore k old.quota old.sender count) c.requires.of.0.0
    ∙ ap (λ (n : ℕ). may_restore c.args.at.now.sn n old.sender count) c.requires.of.0.1) in
    let keeps = c.restore.ensures.kept ∙ ap (λ (t : Bool). restoring old count c.args.packet.now t) c.if-not-restore.false in
    let with_both = λ (u : SenderState) (ts : List ℕ). record (with_down b (side u c.args.bearer.now.down.frames)) { taken_while_frozen = ts } in
    let passed = λ (d : CuUpBearer). step_after c.args.out.now (passed_on (octet_way codec) Dl (at_as c.args.at.now) Same (numbered c.args.at.now.sn count c.args.packet.now) d) in
    step_as _ _ _ _ _
    (ap (λ (x : OctetAnswer CuUpBearer). step_after c.args.out.now x)
    (numbered_frozen codec c.args.at.now b c.args.packet.now c.args.count count c.in-Some.is c.if-at.false (may ∙ c.if-not-restore.false) c.if-not-at.false)
    ∙ ap (λ (u : SenderState). passed (with_both u (c.args.bearer.now.taken_while_frozen ++ count ∷ []))) (sym keeps)
    ∙ ap (λ (ts : List ℕ). passed (with_both c.restore.new.self ts)) (sym c.in_ok-push.ensures.ok))
    (c.pass_counted-2.ensures codec (with_both c.restore.new.self c.push.new.self) refl)
