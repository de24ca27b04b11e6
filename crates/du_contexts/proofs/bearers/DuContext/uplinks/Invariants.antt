use Rattle.std.proofs.Common.{◌≡◌, ◌++◌, map}
use Rattle.du_contexts.specs.Renewed.{uplink_of}
use Rattle.du_contexts.proofs.bearers.DuContext.uplinks.Given as goal

abbrev pub invariant-loop-id : goal.invariant-loop-id
invariant-loop-id l = l.uplinks ++ map uplink_of l.id-iterator ≡ map uplink_of l.initial.id-iterator
