use Rattle.asn1_module.specs.graph.Walks.{AreAmong}
use Rattle.asn1_module.proofs.graph.paths.ordered.Given as goal

abbrev pub invariant-loop-vertex : goal.invariant-loop-vertex
invariant-loop-vertex l = AreAmong l.found.items l.steps.edges.now
