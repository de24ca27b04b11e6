use Rattle.std.proofs.Common.{◌≡◌, ◌≤◌, ℕ, length, List, sym, ap, ◌∙◌, subst, arith}
use Rattle.std.specs.Global.{Vec}
use Rattle.unit_defs.specs.CuUpRecords.{CuUpContext}
use Rattle.unit_defs.specs.CuUp.{uplinks_from}
use Rattle.unit_defs.specs.octet_defs.Codec.{octet_way}
use Rattle.unit_messages.specs.steps.Steps.{IsStep}
use Rattle.cu_up_bearer.specs.declared.bearers.bearer.Bearer.{Bearer}
use Rattle.cu_up_contexts.specs.bearer_context.Bearers.{numbered, shared, AreServed, context_as}
use Rattle.cu_up_contexts.specs.bearer_context.Orders.{bearers_after, context_after}
use Rattle.cu_up_contexts.proofs.bearer_context.Numbered.{with_all}
use Rattle.cu_up_contexts.proofs.bearer_context.Whole.{seen_length}
use Rattle.cu_up_contexts.proofs.bearer_context.Kept.{on_ok, sound_after}
use Rattle.cu_up_contexts.proofs.bearer_context.Steps.{context_step}
use Rattle.cu_up_contexts.proofs.bearer_context.context.Context.add_uplinks.Goals as goal

pub add_each-done-requires : goal.add_each-done-requires
add_each-done-requires c =
    let i = c.self.inside in
    let size : length c.as_mut_slice.result.now ≡ length c.args.self.now.bearers =
    ap length c.as_mut_slice.ensures.value ∙ sym (seen_length i.instance i.sn i.quota i.flags i.bearers.items c.args.self.now c.self.view_is) in
    omega (arith, size, c.requires, c.from.ensures)

pub invariant_of-self : goal.invariant_of-self
invariant_of-self c =
    let i = c.self.inside in
    let ws = c.add_each-done.new.bearers in
    let same : length ws ≡ length i.bearers.items = c.add_each-done.auto.bearers ∙ ap length c.as_mut_slice.ensures.value in
    let size : length ws ≡ i.bearers.len = same ∙ sym i.bearers.ok.0 in
    sound_after c.add_each-done.result c.is_err.result c.is_err.ensures.value i.sn i.quota i.flags ws c.forget_if.new.bearers.items
    (subst (λ (n : ℕ). n ≤ 8) (sym same) c.self.invariant.few) c.self.invariant.known
    (c.add_each-done.ensures.served (shared i.sn i.quota i.flags)
    (subst (λ (bs : List Bearer). AreServed (shared i.sn i.quota i.flags) bs) (sym c.as_mut_slice.ensures.value) c.self.invariant.served))
    (λ fine. ap (λ (v : Vec Bearer). v.items) (c.forget_if.ensures.kept fine) ∙ with_all i.bearers ws size)
    (λ failed. c.forget_if.ensures.none failed)

pub returns : goal.returns
returns c = λ codec.
    let i = c.self.inside in
    let way = octet_way codec in
    let whole : List Bearer → CuUpContext = λ bs. context_as i.instance i.sn i.quota i.flags bs in
    let here = whole i.bearers.items in
    let ws = c.add_each-done.new.bearers in
    let size : length ws ≡ i.bearers.len = c.add_each-done.auto.bearers ∙ ap length c.as_mut_slice.ensures.value ∙ sym i.bearers.ok.0 in
    subst
    (λ (x : CuUpContext). IsStep (context_after codec c.args.out.now x (uplinks_from way c.args.next x.bearers)) c.add_each-done.new.out
    (whole c.forget_if.new.bearers.items) c.add_each-done.result)
    c.self.view_is
    (context_step codec c.args.out.now c.add_each-done.new.out here (whole c.forget_if.new.bearers.items) (uplinks_from way c.args.next here.bearers)
    (numbered 1 ws) c.add_each-done.result
    (on_ok c.add_each-done.result c.is_err.result c.is_err.ensures.value (whole c.forget_if.new.bearers.items ≡ record here { bearers = numbered 1 ws })
    (λ fine. ap whole (ap (λ (v : Vec Bearer). v.items) (c.forget_if.ensures.kept fine) ∙ with_all i.bearers ws size)))
    (subst (λ (bs : List Bearer). IsStep (bearers_after codec c.args.out.now (uplinks_from way c.args.next (numbered 1 bs))) c.add_each-done.new.out (numbered 1 ws) c.add_each-done.result)
    c.as_mut_slice.ensures.value
    (subst (λ (n : ℕ). IsStep (bearers_after codec c.args.out.now (uplinks_from way n (numbered 1 c.as_mut_slice.result.now))) c.add_each-done.new.out (numbered 1 ws) c.add_each-done.result)
    c.from.ensures (c.add_each-done.ensures.step codec 1))))
