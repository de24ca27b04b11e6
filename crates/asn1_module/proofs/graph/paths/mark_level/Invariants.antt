use Rattle.std.proofs.Common.{take}
use Rattle.asn1_module.specs.graph.Tables.{MarksLevel}
use Rattle.asn1_module.proofs.graph.paths.mark_level.Given as goal

abbrev pub invariant-loop-edge : goal.invariant-loop-edge
invariant-loop-edge l = MarksLevel l.ranks (take l.edge-index l.edges) l.table
