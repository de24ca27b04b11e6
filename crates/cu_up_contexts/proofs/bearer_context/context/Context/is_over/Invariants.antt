use Rattle.std.proofs.Common.{◌≡◌, ◌+◌, drop}
use Rattle.std.specs.List.{list_all}
use Rattle.unit_defs.specs.CuUpBearers.{is_over}
use Rattle.cu_up_bearer.specs.tunnels.Tunnels.{flags_as}
use Rattle.cu_up_contexts.specs.bearer_context.Bearers.{numbered}
use Rattle.cu_up_contexts.proofs.bearer_context.context.Context.is_over.Given as goal

abbrev pub invariant-loop-bearer : goal.invariant-loop-bearer
invariant-loop-bearer l =
    list_all (λ e. is_over (flags_as l.self-inside.flags) e.1) (numbered (l.bearer-index + 1) (drop l.bearer-index l.bearer-items))
    ≡ list_all (λ e. is_over (flags_as l.self-inside.flags) e.1) (numbered 1 l.bearer-items)
