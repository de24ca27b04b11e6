use Rattle.std.proofs.Common.{◌≡◌, drop}
use Rattle.std.specs.List.{flat_map}
use Rattle.unit_defs.specs.Teids.{without_each}
use Rattle.cu_up_contexts.specs.contexts.Rows.{closed_of}
use Rattle.cu_up_contexts.proofs.contexts.tunnels.close_shown.Given as goal

abbrev pub invariant-loop-output : goal.invariant-loop-output
invariant-loop-output l =
    without_each l.tunnels (flat_map closed_of (drop l.output-index l.out)) ≡ without_each l.initial.tunnels (flat_map closed_of l.out)
