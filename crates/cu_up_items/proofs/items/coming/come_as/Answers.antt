use Rattle.std.proofs.Common.{Ok, true, false, refl, sym, ◌∙◌}
use Rattle.gnb_types.specs.declared.outputs.Output.TheVariants as outs
use Rattle.cu_up_bearer.specs.bearers.Bearers.{kept}
use Rattle.cu_up_bearer.specs.tunnels.Tunnels.{at_as}
use Rattle.cu_up_items.specs.items.Items.{kind_as}
use Rattle.cu_up_items.specs.items.Coming.{stays, takes, said}
use Rattle.cu_up_items.proofs.items.HeldTests.{held_unknown}
use Rattle.cu_up_items.proofs.items.Comings.{came_waits, came_free, as_came, came_fails, taking}
use Rattle.cu_up_items.proofs.items.coming.come_as.Goals as goal

pub returns-in-Some-clause-came : goal.returns-in-Some-clause-came
returns-in-Some-clause-came c = λ codec.
    let b = kept c.args.bearer.now in
    as_came c.args.out.now c.push.new.self b b _ (stays (outs.Held c.in-Some.reason)) (Ok false)
    (came_waits codec c.args.at.now c.args.kind c.args.teid c.args.item.now b c.in-Some.reason (sym c.held_reason.ensures ∙ c.in-Some.is))
    (c.in_ok-push.ensures.ok, refl)

pub returns-in_err-take-clause-came : goal.returns-in_err-take-clause-came
returns-in_err-take-clause-came c = λ codec.
    let b = kept c.args.bearer.now in
    let free = sym c.held_reason.ensures ∙ c.in_default.is in
    let answer = taking codec c.args.at.now c.args.kind c.args.teid c.args.item.now b in
    as_came c.args.out.now c.take.new.out b (kept c.take.new.bearer) _ (takes answer) _ (came_free codec c.args.at.now c.args.kind c.args.teid c.args.item.now b free)
    (came_fails c.args.out.now c.take.new.out b (kept c.take.new.bearer) answer c.in_err-take.field-0.0 _ c.from_residual-in_err-take.ensures.1
    (c.in_err-take.ensures.step codec))

pub returns-clause-came : goal.returns-clause-came
returns-clause-came c = λ codec.
    let b = kept c.args.bearer.now in
    let free = sym c.held_reason.ensures ∙ c.in_default.is in
    let answer = taking codec c.args.at.now c.args.kind c.args.teid c.args.item.now b in
    as_came c.args.out.now c.take.new.out b (kept c.take.new.bearer) _ (takes answer) (Ok true)
    (came_free codec c.args.at.now c.args.kind c.args.teid c.args.item.now b free) (c.in_ok-take.ensures.step codec)

pub returns-in_err-take-clause-idle : goal.returns-in_err-take-clause-idle
returns-in_err-take-clause-idle c = λ unknown. absurd (held_unknown (at_as c.args.at.now) (kept c.args.bearer.now) (kind_as c.args.kind)
    (said c.args.at.now (kept c.args.bearer.now) c.args.kind c.args.item.now) unknown (sym c.held_reason.ensures ∙ c.in_default.is))

pub returns-clause-idle : goal.returns-clause-idle
returns-clause-idle c = λ unknown. absurd (held_unknown (at_as c.args.at.now) (kept c.args.bearer.now) (kind_as c.args.kind)
    (said c.args.at.now (kept c.args.bearer.now) c.args.kind c.args.item.now) unknown (sym c.held_reason.ensures ∙ c.in_default.is))
