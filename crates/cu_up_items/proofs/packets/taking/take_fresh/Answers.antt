use Rattle.std.proofs.Common.{◌≡◌, ℕ, Bool, true, false, List, [], ◌∷◌, ◌++◌, refl, sym, ap, ◌∙◌}
use Rattle.gnb_types.specs.declared.names.Dir.TheVariants.{Dl}
use Rattle.gnb_types.specs.declared.names.SnBits.{SnBits}
use Rattle.gnb_types.specs.declared.outputs.Tag.TheVariants.{Absent, Same}
use Rattle.gnb_types.specs.declared.reasons.DropReason.TheVariants.{Duplicate}
use Rattle.pdcp_defs.specs.Senders.{may_restore}
use Rattle.unit_defs.specs.Ways.{fresh, numbered, drops}
use Rattle.unit_defs.specs.CuUpRecords.{CuUpBearer}
use Rattle.unit_defs.specs.CuUpBearers.{sent, number_waiting}
use Rattle.unit_defs.specs.octet_defs.Codec.{octet_way}
use Rattle.unit_defs.specs.octet_defs.Units.{OctetAnswer}
use Rattle.unit_messages.specs.steps.Steps.{step_after, stepped}
use Rattle.pdcp_bearers.specs.ue_bearers.Senders.{SenderState, restoring}
use Rattle.cu_up_bearer.specs.tunnels.Tunnels.{at_as}
use Rattle.cu_up_bearer.specs.downlink.Downlinks.{with_down}
use Rattle.cu_up_bearer.proofs.downlink.Sequels.{step_as}
use Rattle.cu_up_bearer.proofs.downlink.Numberings.{side}
use Rattle.cu_up_bearer.specs.bearers.Bearers.{kept}
use Rattle.cu_up_items.specs.packets.Passing.{passed_on}
use Rattle.cu_up_items.proofs.packets.Takes.{waits, fresh_released, fresh_frozen, fresh_goes, fails_alike}
use Rattle.cu_up_items.proofs.packets.taking.take_fresh.Goals as goal

pub returns-then-at-clause-step : goal.returns-then-at-clause-step
returns-then-at-clause-step c = λ codec.
    let b = kept c.args.bearer.now in
    let same : c.as_slice.result.now ≡ c.args.packet = cc in
    step_as _ _ _ _ _
    (ap (λ (x : OctetAnswer CuUpBearer). step_after c.args.out.now x) (fresh_released codec c.args.at.now b c.args.packet c.if-at.true)
    ∙ ap (λ (q : List ℕ). step_after c.args.out.now (passed_on (octet_way codec) Dl (at_as c.args.at.now) Absent (fresh q) b)) (sym same))
    (c.pass_fresh.ensures codec b refl)

pub returns-in_err-pass_fresh-clause-step : goal.returns-in_err-pass_fresh-clause-step
returns-in_err-pass_fresh-clause-step c = λ codec.
    let b = kept c.args.bearer.now in
    let w = waits codec c.args.at.now b c.args.packet in
    let same : c.as_slice-then-at-2.result.now ≡ c.args.packet = cc in
    step_as _ _ _ _ _
    (ap (λ (x : OctetAnswer CuUpBearer). step_after c.args.out.now x) (fresh_frozen codec c.args.at.now b c.args.packet c.if-at.false c.if-at-2.true)
    ∙ ap (λ (q : List ℕ). step_after c.args.out.now (passed_on (octet_way codec) Dl (at_as c.args.at.now) Absent (fresh q) w)) (sym same))
    (fails_alike (Unit {0}) (Unit {0}) _ c.pass_fresh-then-at-2.new.out w c.in_err-pass_fresh.field-0.0 (c.in_err-pass_fresh.ensures codec w refl) _ _ _
    c.from_residual.ensures.1)

pub returns-then-at-2-clause-step : goal.returns-then-at-2-clause-step
returns-then-at-2-clause-step c = λ codec.
    let b = kept c.args.bearer.now in
    let w = waits codec c.args.at.now b c.args.packet in
    let same : c.as_slice-then-at-2.result.now ≡ c.args.packet = cc in
    ap (λ (x : OctetAnswer CuUpBearer). step_after c.args.out.now x) (fresh_frozen codec c.args.at.now b c.args.packet c.if-at.false c.if-at-2.true)
    ∙ ap (λ (q : List ℕ). step_after c.args.out.now (passed_on (octet_way codec) Dl (at_as c.args.at.now) Absent (fresh q) w)) (sym same)
    ∙ c.in_ok-pass_fresh.ensures codec w refl
    ∙ ap (λ (u : SenderState). stepped c.pass_fresh-then-at-2.new.out (with_down b (side u c.args.bearer.now.down.frames))) (sym c.in_ok-offer.ensures)

pub returns-clause-step : goal.returns-clause-step
returns-clause-step c = λ codec.
    let b = kept c.args.bearer.now in
    step_as _ _ _ _ _
    (ap (λ (x : OctetAnswer CuUpBearer). step_after c.args.out.now x) (fresh_goes codec c.args.at.now b c.args.packet c.if-at.false c.if-at-2.false)
    ∙ ap (λ (u : SenderState). step_after c.args.out.now (number_waiting (octet_way codec) (at_as c.args.at.now) (with_down b (side u c.args.bearer.now.down.frames))))
    (sym c.in_ok-offer-2.ensures))
    (c.number_waiting.ensures.step codec b)
