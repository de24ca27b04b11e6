use Rattle.std.proofs.Common.{◌≡◌, ◌++◌, map}
use Rattle.du_contexts.specs.Renewed.{downlink_of}
use Rattle.du_contexts.proofs.bearers.DuContext.downlinks.Given as goal

abbrev pub invariant-loop-id : goal.invariant-loop-id
invariant-loop-id l = l.tunnels ++ map downlink_of l.id-iterator ≡ map downlink_of l.initial.id-iterator
