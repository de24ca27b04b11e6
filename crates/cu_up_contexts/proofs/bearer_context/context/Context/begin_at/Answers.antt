use Rattle.std.proofs.Common.{◌≡◌, length, sym, ap, ◌∙◌, arith}
use Rattle.cu_up_contexts.specs.bearer_context.Bearers.{shared}
use Rattle.cu_up_contexts.proofs.bearer_context.Whole.{seen_length, sound_with}
use Rattle.cu_up_contexts.proofs.bearer_context.context.Context.begin_at.Goals as goal

pub begin_each-requires : goal.begin_each-requires
begin_each-requires c =
    let i = c.self.inside in
    let size : length c.as_mut_slice.result.now ≡ length c.args.self.now.bearers =
    ap length c.as_mut_slice.ensures.value ∙ sym (seen_length i.instance i.sn i.quota i.flags i.bearers.items c.args.self.now c.self.view_is) in
    omega (arith, size, c.requires, c.from.ensures)

pub invariant_of-self : goal.invariant_of-self
invariant_of-self c =
    let i = c.self.inside in
    sound_with i.sn i.quota i.flags i.bearers c.as_mut_slice.result.now c.begin_each.new.bearers c.as_mut_slice.ensures.value c.begin_each.ensures.count
    c.self.invariant (λ served. c.begin_each.ensures.served (shared i.sn i.quota i.flags) served)
