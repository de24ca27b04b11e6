use Rattle.std.proofs.Common.{Option, ap, ◌∙◌}
use Rattle.unit_defs.specs.CuUpRecords.{CuUpBearer}
use Rattle.unit_defs.specs.octet_defs.Units.{OctetAnswer}
use Rattle.unit_messages.specs.steps.Steps.{step_after}
use Rattle.cu_up_bearer.specs.declared.tunnels.hop.Hop.{Hop}
use Rattle.cu_up_bearer.specs.tunnels.Tunnels.{hop_as}
use Rattle.cu_up_bearer.proofs.downlink.Sequels.{step_as, goes_on, ends_with}
use Rattle.cu_up_bearer.specs.bearers.Bearers.{kept}
use Rattle.cu_up_items.proofs.ends.Ends.{ends_nothing, ends_one, marker, closes}
use Rattle.cu_up_items.proofs.ends.ending.end_n3.Goals as goal

pub returns-in_default-clause-step : goal.returns-in_default-clause-step
returns-in_default-clause-step c = λ codec.
    let b = kept c.args.bearer.now in
    step_as _ _ _ _ _
    (ap (λ (x : OctetAnswer CuUpBearer). step_after c.args.out.now x) (ends_nothing codec c.args.at.now b c.args.bearer.now.hop c.in_default.is))
    (c.drop_item.ensures b)

pub returns-in_err-pass_end-clause-step : goal.returns-in_err-pass_end-clause-step
returns-in_err-pass_end-clause-step c = λ codec.
    let b = kept c.args.bearer.now in
    let o = c.args.bearer.now.hop in
    let same = ap (λ (x : Option Hop). hop_as x) c.in-Some.is in
    step_as _ _ _ _ _
    (ap (λ (x : OctetAnswer CuUpBearer). step_after c.args.out.now x) (ends_one codec c.args.at.now b o c.in-Some.hop c.in-Some.is))
    (ends_with (Unit {0}) (Unit {0}) c.args.out.now (marker codec c.args.at.now b o) (closes codec c.args.at.now b o) c.pass_end.new.out b
    c.in_err-pass_end.field-0.0 (c.in_err-pass_end.ensures codec b same) _ _ _ c.from_residual.ensures.1)

pub returns-clause-step : goal.returns-clause-step
returns-clause-step c = λ codec.
    let b = kept c.args.bearer.now in
    let o = c.args.bearer.now.hop in
    let same = ap (λ (x : Option Hop). hop_as x) c.in-Some.is in
    step_as _ _ _ _ _
    (ap (λ (x : OctetAnswer CuUpBearer). step_after c.args.out.now x) (ends_one codec c.args.at.now b o c.in-Some.hop c.in-Some.is))
    (goes_on (Unit {0}) (Unit {0}) c.args.out.now (marker codec c.args.at.now b o) (closes codec c.args.at.now b o) c.pass_end.new.out b tt
    (c.in_ok-pass_end.ensures codec b same) _ _ _ (c.close_n3.ensures.step codec))
