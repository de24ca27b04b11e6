use Rattle.std.proofs.Common.{List, subst}
use Rattle.cu_up_bearer.specs.declared.bearers.bearer.Bearer.{Bearer}
use Rattle.cu_up_contexts.specs.bearer_context.Bearers.{AreServed}
use Rattle.cu_up_contexts.proofs.bearer_context.orders.+begin_each.Goals as goal

pub returns-clause-served : goal.returns-clause-served
returns-clause-served t c = λ at all.
    let both = subst (λ (bs : List Bearer). AreServed at bs) c.in-Some.ensures.cases.0 all in
    (both.0, c.begin_each.ensures.served at both.1)
