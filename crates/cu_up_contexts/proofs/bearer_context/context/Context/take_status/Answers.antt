use Rattle.std.proofs.Common.{◌≡◌, true, length, List, sym, ap, ◌∙◌, subst}
use Rattle.std.specs.Global.{Vec}
use Rattle.unit_defs.specs.CuUpRecords.{CuUpContext}
use Rattle.unit_defs.specs.CuUp.{status_each, as_known}
use Rattle.unit_defs.specs.octet_defs.Codec.{octet_way}
use Rattle.unit_messages.specs.steps.Steps.{IsStep}
use Rattle.cu_up_bearer.specs.declared.bearers.bearer.Bearer.{Bearer}
use Rattle.cu_up_contexts.specs.bearer_context.Bearers.{numbered, context_as}
use Rattle.cu_up_contexts.specs.bearer_context.Orders.{bearers_after, context_after}
use Rattle.cu_up_contexts.proofs.bearer_context.Numbered.{with_all}
use Rattle.cu_up_contexts.proofs.bearer_context.Kept.{on_ok}
use Rattle.cu_up_contexts.proofs.bearer_context.Steps.{context_step}
use Rattle.cu_up_contexts.proofs.bearer_context.context.Context.take_status.Goals as goal

pub returns : goal.returns
returns c = λ codec.
    let i = c.self.inside in
    let way = octet_way codec in
    let here : CuUpContext = context_as i.instance i.sn i.quota i.flags i.bearers.items in
    let whole : List Bearer → CuUpContext = λ bs. context_as i.instance i.sn i.quota (record i.flags { may_serve = true }) bs in
    let on = as_known way here in
    let ws = c.go_on_each-done.new.bearers in
    let size : length ws ≡ i.bearers.len = c.go_on_each-done.auto.bearers ∙ ap length c.as_mut_slice.ensures.value ∙ sym i.bearers.ok.0 in
    subst
    (λ (x : CuUpContext). IsStep (context_after codec c.args.out.now (as_known way x) (status_each way c.args.ue (as_known way x) c.args.statuses.now x.bearers))
    c.go_on_each-done.new.out (whole c.forget_if.new.bearers.items) c.go_on_each-done.result)
    c.self.view_is
    (context_step codec c.args.out.now c.go_on_each-done.new.out on (whole c.forget_if.new.bearers.items) (status_each way c.args.ue on c.args.statuses.now here.bearers)
    (numbered 1 ws) c.go_on_each-done.result
    (on_ok c.go_on_each-done.result c.is_err.result c.is_err.ensures.value (whole c.forget_if.new.bearers.items ≡ record on { bearers = numbered 1 ws })
    (λ fine. ap whole (ap (λ (v : Vec Bearer). v.items) (c.forget_if.ensures.kept fine) ∙ with_all i.bearers ws size)))
    (subst (λ (bs : List Bearer). IsStep (bearers_after codec c.args.out.now (status_each way c.args.ue on c.args.statuses.now (numbered 1 bs))) c.go_on_each-done.new.out (numbered 1 ws) c.go_on_each-done.result)
    c.as_mut_slice.ensures.value (c.go_on_each-done.ensures.step codec i.instance here.bearers)))
