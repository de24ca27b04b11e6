use Rattle.std.proofs.Common.{◌≡◌, map, drop}
use Rattle.unit_defs.specs.CuUp.{with_entries}
use Rattle.cu_up_contexts.specs.bearer_context.Answers.{entry_as}
use Rattle.cu_up_contexts.proofs.contexts.tunnels.open_each.Given as goal

abbrev pub invariant-loop-opening : goal.invariant-loop-opening
invariant-loop-opening l =
    with_entries l.tunnels (map (entry_as l.ue l.context) (drop l.opening-index l.openings))
    ≡ with_entries l.initial.tunnels (map (entry_as l.ue l.context) l.openings)
