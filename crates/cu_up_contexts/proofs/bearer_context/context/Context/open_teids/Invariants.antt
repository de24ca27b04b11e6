use Rattle.std.proofs.Common.{◌≡◌, ◌+◌, ◌++◌, drop}
use Rattle.std.specs.List.{flat_map}
use Rattle.unit_defs.specs.CuUpBearers.{open_teids}
use Rattle.cu_up_contexts.specs.bearer_context.Bearers.{numbered}
use Rattle.cu_up_contexts.proofs.bearer_context.context.Context.open_teids.Given as goal

abbrev pub invariant-loop-bearer : goal.invariant-loop-bearer
invariant-loop-bearer l =
    l.teids ++ flat_map (λ e. open_teids e.1) (numbered (l.bearer-index + 1) (drop l.bearer-index l.bearer-items))
    ≡ flat_map (λ e. open_teids e.1) (numbered 1 l.bearer-items)
