use Rattle.std.proofs.Common.{◌≡◌, drop, false}
use Rattle.asn1_module.specs.graph.Walks.{round_of, depth_step}
use Rattle.asn1_module.proofs.graph.paths.depth_round.Given as goal

abbrev pub invariant-loop-edge : goal.invariant-loop-edge
invariant-loop-edge l = round_of (depth_step l.weights) l.changed l.table (drop l.edge-index l.edges) ≡ round_of (depth_step l.weights) false l.fn.table l.edges
