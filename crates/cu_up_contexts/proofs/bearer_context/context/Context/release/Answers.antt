use Rattle.std.proofs.Common.{true}
use Rattle.cu_up_bearer.specs.declared.tunnels.at.Flags.{Flags}
use Rattle.cu_up_contexts.specs.bearer_context.Bearers.{shared}
use Rattle.cu_up_contexts.proofs.bearer_context.Whole.{sound_with}
use Rattle.cu_up_contexts.proofs.bearer_context.context.Context.release.Goals as goal

pub invariant_of-self : goal.invariant_of-self
invariant_of-self c =
    let i = c.self.inside in
    let flags : Flags = record i.flags { released = true } in
    sound_with i.sn i.quota flags i.bearers c.as_mut_slice.result.now c.release_each.new.bearers c.as_mut_slice.ensures.value c.release_each.ensures.count
    (record { few = c.self.invariant.few; served = c.self.invariant.served; known = c.self.invariant.known })
    (λ served. c.release_each.ensures.served (shared i.sn i.quota flags) served)
