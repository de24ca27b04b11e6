use Rattle.std.proofs.Common.{◌≡◌, ◌+◌, ◌++◌, map, drop}
use Rattle.unit_defs.specs.CuUpBearers.{status_of}
use Rattle.cu_up_contexts.specs.bearer_context.Bearers.{numbered}
use Rattle.cu_up_contexts.proofs.bearer_context.context.Context.statuses.Given as goal

abbrev pub invariant-loop-bearer : goal.invariant-loop-bearer
invariant-loop-bearer l = record {
  number : l.number ≡ l.bearer-index + 1;
  all :
      l.list ++ map (λ e. status_of e.0 e.1) (numbered l.number (drop l.bearer-index l.bearer-items))
      ≡ map (λ e. status_of e.0 e.1) (numbered 1 l.bearer-items);
}
