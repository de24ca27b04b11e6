use Rattle.std.proofs.Common.{◌≡◌, ◌++◌, drop, length}
use Rattle.asn1_defs.specs.Graph.{nodes_edges}
use Rattle.asn1_module.proofs.graph.graph.push_nodes.Given as goal

abbrev pub invariant-loop-from : goal.invariant-loop-from
invariant-loop-from l = l.edges ++ nodes_edges (length l.nodes) l.assignments l.from (drop l.from l.nodes) ≡ l.fn.edges ++ nodes_edges (length l.nodes) l.assignments 0 l.nodes
