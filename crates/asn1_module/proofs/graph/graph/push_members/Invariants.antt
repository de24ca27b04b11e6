use Rattle.std.proofs.Common.{◌≡◌, ◌++◌, drop}
use Rattle.asn1_defs.specs.Graph.{member_edges}
use Rattle.asn1_module.proofs.graph.graph.push_members.Given as goal

abbrev pub invariant-loop-member : goal.invariant-loop-member
invariant-loop-member l = l.edges ++ member_edges l.from (drop l.member-index l.members) ≡ l.fn.edges ++ member_edges l.from l.members
