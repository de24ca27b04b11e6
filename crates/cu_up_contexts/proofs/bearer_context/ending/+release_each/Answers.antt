use Rattle.std.proofs.Common.{List, subst}
use Rattle.cu_up_bearer.specs.declared.bearers.bearer.Bearer.{Bearer}
use Rattle.cu_up_contexts.specs.bearer_context.Bearers.{AreServed}
use Rattle.cu_up_contexts.proofs.bearer_context.ending.+release_each.Goals as goal

pub returns-clause-served : goal.returns-clause-served
returns-clause-served t c = λ a all.
    let both = subst (λ (bs : List Bearer). AreServed a bs) c.in-Some.ensures.cases.0 all in
    ((c.release.ensures.of a both.0.0, λ unknown. c.release.ensures.empty), c.release_each.ensures.served a both.1)
