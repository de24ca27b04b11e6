use Rattle.std.proofs.Common.{true, ap, sym, ◌∙◌}
use Rattle.unit_defs.specs.octet_defs.Units.{OctetAnswer}
use Rattle.unit_defs.specs.CuUpRecords.{CuUpBearer}
use Rattle.unit_messages.specs.steps.Steps.{step_after}
use Rattle.cu_up_bearer.proofs.downlink.Sequels.{nothing_more, step_as}
use Rattle.cu_up_bearer.specs.bearers.Bearers.{kept}
use Rattle.cu_up_items.proofs.packets.Confirms.{loses_nothing, loses_frozen, loses_some, marked}
use Rattle.cu_up_items.proofs.packets.confirming.lose_frames.Goals as goal

pub returns-then-is_empty-clause-step : goal.returns-then-is_empty-clause-step
returns-then-is_empty-clause-step c = λ codec.
    let b = kept c.args.bearer.now in
    ap (λ (x : OctetAnswer CuUpBearer). step_after c.args.out.now x)
    (loses_nothing codec c.args.at.now b c.args.lost.now (sym c.is_empty.ensures ∙ c.if-is_empty.true))
    ∙ nothing_more c.args.out.now b

pub returns-then-at-clause-step : goal.returns-then-at-clause-step
returns-then-at-clause-step c = λ codec.
    let b = kept c.args.bearer.now in
    ap (λ (x : OctetAnswer CuUpBearer). step_after c.args.out.now x)
    (loses_frozen codec c.args.at.now b c.args.lost.now (sym c.is_empty.ensures ∙ c.if-is_empty.false) c.if-at.true)
    ∙ nothing_more c.args.out.now (record b { restart = true; loss_while_frozen = true })

pub returns-clause-step : goal.returns-clause-step
returns-clause-step c = λ codec.
    let b = kept c.args.bearer.now in
    step_as _ _ _ _ _
    (ap (λ (x : OctetAnswer CuUpBearer). step_after c.args.out.now x)
    (loses_some codec c.args.at.now b c.args.lost.now (sym c.is_empty.ensures ∙ c.if-is_empty.false) c.if-at.false))
    (c.send_unconfirmed.ensures.step codec (marked codec c.args.at.now b))
