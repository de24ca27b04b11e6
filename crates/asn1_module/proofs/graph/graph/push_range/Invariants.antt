use Rattle.std.proofs.Common.{◌≡◌, ◌++◌, ◌-◌}
use Rattle.asn1_defs.specs.Graph.{range_edges}
use Rattle.asn1_module.proofs.graph.graph.push_range.Given as goal

abbrev pub invariant-loop-to : goal.invariant-loop-to
invariant-loop-to l = l.edges ++ range_edges l.from l.to (l.end - l.to) ≡ l.fn.edges ++ range_edges l.from l.first (l.end - l.first)
