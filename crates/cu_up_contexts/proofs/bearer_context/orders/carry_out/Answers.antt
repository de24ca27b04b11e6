use Rattle.std.proofs.Common.{ℕ, sym, subst}
use Rattle.unit_defs.specs.Messages.{teid_of}
use Rattle.unit_defs.specs.CuUpBearers.{switched, frozen_to}
use Rattle.unit_defs.specs.octet_defs.Codec.{octet_way}
use Rattle.unit_messages.specs.steps.Steps.{step_after, IsStep}
use Rattle.cu_up_bearer.specs.tunnels.Tunnels.{at_as}
use Rattle.cu_up_bearer.specs.bearers.Bearers.{kept}
use Rattle.cu_up_contexts.specs.declared.bearer_context.orders.BearerOrder.{BearerOrder}
use Rattle.cu_up_contexts.specs.bearer_context.Orders.{row_of}
use Rattle.cu_up_contexts.proofs.bearer_context.orders.carry_out.Goals as goal

pub returns-in-Switch-clause-step : goal.returns-in-Switch-clause-step
returns-in-Switch-clause-step c = λ codec.
    let a = at_as c.args.at.now in
    let b = kept c.args.bearer.now in
    let after = kept c.switch.new.bearer in
    subst (λ (o : BearerOrder). IsStep (step_after c.args.out.now (row_of codec o a b)) c.switch.new.out after c.switch.result) (sym c.in-Switch.is)
    (subst (λ (n : ℕ). IsStep (step_after c.args.out.now (switched (octet_way codec) a c.in-Switch.du n b)) c.switch.new.out after c.switch.result)
    c.teid_of.ensures (c.switch.ensures.step codec))

pub returns-in-Freeze-clause-step : goal.returns-in-Freeze-clause-step
returns-in-Freeze-clause-step c = λ codec.
    let a = at_as c.args.at.now in
    let b = kept c.args.bearer.now in
    let after = kept c.freeze.new.bearer in
    subst (λ (o : BearerOrder). IsStep (step_after c.args.out.now (row_of codec o a b)) c.freeze.new.out after c.freeze.result) (sym c.in-Freeze.is)
    (subst (λ (n : ℕ). IsStep (step_after c.args.out.now (frozen_to (octet_way codec) a c.in-Freeze.peer n (teid_of c.in-Freeze.up.now a.bearer) b)) c.freeze.new.out after c.freeze.result)
    c.teid_of-in-Freeze.ensures
    (subst (λ (n : ℕ). IsStep (step_after c.args.out.now (frozen_to (octet_way codec) a c.in-Freeze.peer c.teid_of-in-Freeze.result n b)) c.freeze.new.out after c.freeze.result)
    c.teid_of-in-Freeze-2.ensures (c.freeze.ensures.step codec)))

pub returns-in-Resume-clause-step : goal.returns-in-Resume-clause-step
returns-in-Resume-clause-step c = λ codec.
    subst
    (λ (o : BearerOrder). IsStep (step_after c.args.out.now (row_of codec o (at_as c.args.at.now) (kept c.args.bearer.now))) c.resume.new.out
    (kept c.resume.new.bearer) c.resume.result)
    (sym c.in-Resume.is) (c.resume.ensures.step codec)
