use Rattle.std.proofs.Common.{refl, sym, ap, ◌∙◌}
use Rattle.unit_defs.specs.CuUpRecords.{CuUpBearer}
use Rattle.unit_defs.specs.octet_defs.Units.{OctetAnswer}
use Rattle.unit_messages.specs.steps.Steps.{step_after}
use Rattle.cu_up_bearer.proofs.downlink.Sequels.{step_as, nothing_more}
use Rattle.cu_up_bearer.specs.bearers.Bearers.{kept}
use Rattle.cu_up_items.proofs.ends.UplinkEnds.{hop_none, hop_due, hop_waits, with_end}
use Rattle.cu_up_items.proofs.ends.uplinks.end_hop_up.Goals as goal

pub returns-in_default-clause-step : goal.returns-in_default-clause-step
returns-in_default-clause-step c = λ codec.
    let b = kept c.args.bearer.now in
    ap (λ (x : OctetAnswer CuUpBearer). step_after c.args.out.now x) (hop_none codec c.args.at.now b c.args.bearer.now.hop c.in_default.is)
    ∙ nothing_more c.args.out.now b

pub returns-then-not-is_due-clause-step : goal.returns-then-not-is_due-clause-step
returns-then-not-is_due-clause-step c = λ codec.
    let b = kept c.args.bearer.now in
    ap (λ (x : OctetAnswer CuUpBearer). step_after c.args.out.now x)
    (hop_waits codec c.args.at.now b c.args.bearer.now.hop c.in-Some.hop c.in-Some.is (sym c.is_due.ensures ∙ c.if-not-is_due.true))
    ∙ nothing_more c.args.out.now b

pub returns-clause-step : goal.returns-clause-step
returns-clause-step c = λ codec.
    let b = kept c.args.bearer.now in
    let o = c.args.bearer.now.hop in
    step_as _ _ _ _ _
    (ap (λ (x : OctetAnswer CuUpBearer). step_after c.args.out.now x)
    (hop_due codec c.args.at.now b o c.in-Some.hop c.in-Some.is (sym c.is_due.ensures ∙ c.if-not-is_due.false)))
    (c.pass_end.ensures codec (with_end codec c.args.at.now b o c.in-Some.hop c.in-Some.is) refl)
