use Rattle.std.proofs.Common.{◌≡◌, ◌+◌, ◌-◌}
use Rattle.std.specs.List.{flat_map}
use Rattle.run_defs.specs.Steps.{first_outstanding, bearer_numbers}
use Rattle.run_defs.specs.UnitRuns.{Records}
use Rattle.run_links.specs.Networks.{OctetCore, state_of}
use Rattle.run_links.specs.Spans.{both_of}
use Rattle.run_links.proofs.network.Network.outstanding_of.Given as goal

abbrev pub invariant-loop-before : goal.invariant-loop-before
invariant-loop-before l = (units : Records) (core : OctetCore)
    → first_outstanding (state_of units core l.self) (flat_map (both_of l.ue) (bearer_numbers (l.before + 1) (l.bearers - l.before)))
    ≡ first_outstanding (state_of units core l.self) (flat_map (both_of l.ue) (bearer_numbers 1 l.bearers))
