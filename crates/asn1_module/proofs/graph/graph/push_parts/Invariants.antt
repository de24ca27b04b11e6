use Rattle.std.proofs.Common.{◌≡◌, ◌++◌, ◌+◌, drop}
use Rattle.asn1_defs.specs.Graph.{parts_edges}
use Rattle.asn1_module.proofs.graph.graph.push_parts.Given as goal

abbrev pub invariant-loop-number : goal.invariant-loop-number
invariant-loop-number l = l.edges ++ parts_edges (l.base + l.number) l.first (drop l.number l.assignments) ≡ l.fn.edges ++ parts_edges l.base 0 l.assignments
