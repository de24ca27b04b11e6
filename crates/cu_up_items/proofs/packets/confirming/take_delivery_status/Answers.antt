use Rattle.std.proofs.Common.{Option, ℕ, ap, sym, ◌∙◌}
use Rattle.gnb_types.specs.declared.outputs.Output.{Output}
use Rattle.unit_defs.specs.octet_defs.Codec.{octet_way}
use Rattle.unit_defs.specs.octet_defs.Reading.{count_confirmed}
use Rattle.unit_defs.specs.octet_defs.Units.{OctetAnswer}
use Rattle.unit_defs.specs.Ways.{◌then◌}
use Rattle.unit_defs.specs.CuUpItems.{lost_frames}
use Rattle.unit_defs.specs.CuUpBearers.{number_waiting}
use Rattle.unit_defs.specs.CuUpRecords.{CuUpBearer}
use Rattle.unit_messages.specs.steps.Steps.{step_after}
use Rattle.cu_up_bearer.specs.tunnels.Tunnels.{at_as}
use Rattle.cu_up_bearer.specs.downlink.Downlinks.{with_down}
use Rattle.cu_up_bearer.proofs.downlink.Sequels.{step_as, goes_on, ends_with}
use Rattle.cu_up_bearer.specs.bearers.Bearers.{kept}
use Rattle.cu_up_items.proofs.packets.Confirms.{status_row}
use Rattle.cu_up_items.proofs.packets.confirming.take_delivery_status.Goals as goal

pub returns-in_err-lose_frames-clause-step : goal.returns-in_err-lose_frames-clause-step
returns-in_err-lose_frames-clause-step c = λ codec.
    let b = kept c.args.bearer.now in
    let o = count_confirmed c.args.at.now.sn b c.args.delivered in
    let is = c.confirm_to.ensures.confirms codec c.args.at.now.sn b c.requires.0.0 in
    let now = with_down b c.confirm_to.new.down in
    let row = λ (d : CuUpBearer). (lost_frames (octet_way codec) (at_as c.args.at.now) c.args.lost.now d then number_waiting (octet_way codec) (at_as c.args.at.now)) in
    step_as _ _ _ _ _
    (ap (λ (x : OctetAnswer CuUpBearer). step_after c.args.out.now x)
    (status_row codec c.args.at.now b c.args.lost.now o ∙ ap row (sym is)))
    (ends_with (Unit {0}) (Unit {0}) c.args.out.now (lost_frames (octet_way codec) (at_as c.args.at.now) c.args.lost.now now)
    (number_waiting (octet_way codec) (at_as c.args.at.now)) c.lose_frames.new.out (kept c.lose_frames.new.bearer) c.in_err-lose_frames.field-0.0
    (c.in_err-lose_frames.ensures.step codec) _ _ _ c.from_residual.ensures.1)

pub returns-clause-step : goal.returns-clause-step
returns-clause-step c = λ codec.
    let b = kept c.args.bearer.now in
    let o = count_confirmed c.args.at.now.sn b c.args.delivered in
    let is = c.confirm_to.ensures.confirms codec c.args.at.now.sn b c.requires.0.0 in
    let now = with_down b c.confirm_to.new.down in
    let row = λ (d : CuUpBearer). (lost_frames (octet_way codec) (at_as c.args.at.now) c.args.lost.now d then number_waiting (octet_way codec) (at_as c.args.at.now)) in
    let mid = kept c.lose_frames.new.bearer in
    step_as _ _ _ _ _
    (ap (λ (x : OctetAnswer CuUpBearer). step_after c.args.out.now x)
    (status_row codec c.args.at.now b c.args.lost.now o ∙ ap row (sym is)))
    (goes_on (Unit {0}) (Unit {0}) c.args.out.now (lost_frames (octet_way codec) (at_as c.args.at.now) c.args.lost.now now)
    (number_waiting (octet_way codec) (at_as c.args.at.now)) c.lose_frames.new.out mid tt (c.in_ok-lose_frames.ensures.step codec) _ _ _
    (c.number_waiting.ensures.step codec mid))
