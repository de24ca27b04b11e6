use Rattle.std.proofs.Common.{◌≡◌, length, List, sym, ap, ◌∙◌, subst}
use Rattle.std.specs.Global.{Vec}
use Rattle.gnb_types.specs.declared.names.BearerId.{BearerId}
use Rattle.unit_defs.specs.CuUpRecords.{CuUpBearer, CuUpContext, cu_up_scope}
use Rattle.unit_defs.specs.CuUp.{each_bearer}
use Rattle.unit_defs.specs.octet_defs.Codec.{octet_way}
use Rattle.unit_defs.specs.octet_defs.Units.{OctetAnswer}
use Rattle.unit_messages.specs.steps.Steps.{IsStep}
use Rattle.cu_up_bearer.specs.declared.bearers.bearer.Bearer.{Bearer}
use Rattle.cu_up_contexts.specs.bearer_context.Bearers.{numbered, context_as}
use Rattle.cu_up_contexts.specs.bearer_context.Orders.{bearers_after, context_after, row_of}
use Rattle.cu_up_contexts.proofs.bearer_context.Numbered.{with_all}
use Rattle.cu_up_contexts.proofs.bearer_context.Kept.{on_ok}
use Rattle.cu_up_contexts.proofs.bearer_context.Steps.{context_step}
use Rattle.cu_up_contexts.proofs.bearer_context.context.Context.carry_out.Goals as goal

pub returns : goal.returns
returns c = λ codec.
    let i = c.self.inside in
    let whole : List Bearer → CuUpContext = λ bs. context_as i.instance i.sn i.quota i.flags bs in
    let here = whole i.bearers.items in
    let row : CuUpContext → BearerId → CuUpBearer → OctetAnswer CuUpBearer = λ x id b. row_of codec c.args.order (cu_up_scope c.args.ue x id) b in
    let ws = c.each-done.new.bearers in
    let size : length ws ≡ i.bearers.len = c.each-done.auto.bearers ∙ ap length c.as_mut_slice.ensures.value ∙ sym i.bearers.ok.0 in
    subst
    (λ (x : CuUpContext). IsStep (context_after codec c.args.out.now x (each_bearer (octet_way codec) (row x) x.bearers)) c.each-done.new.out
    (whole c.forget_if.new.bearers.items) c.each-done.result)
    c.self.view_is
    (context_step codec c.args.out.now c.each-done.new.out here (whole c.forget_if.new.bearers.items) (each_bearer (octet_way codec) (row here) here.bearers)
    (numbered 1 ws) c.each-done.result
    (on_ok c.each-done.result c.is_err.result c.is_err.ensures.value (whole c.forget_if.new.bearers.items ≡ record here { bearers = numbered 1 ws })
    (λ fine. ap whole (ap (λ (v : Vec Bearer). v.items) (c.forget_if.ensures.kept fine) ∙ with_all i.bearers ws size)))
    (subst (λ (bs : List Bearer). IsStep (bearers_after codec c.args.out.now (each_bearer (octet_way codec) (row here) (numbered 1 bs))) c.each-done.new.out (numbered 1 ws) c.each-done.result)
    c.as_mut_slice.ensures.value (c.each-done.ensures.step codec)))
