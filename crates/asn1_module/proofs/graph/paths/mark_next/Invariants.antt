use Rattle.std.proofs.Common.{length}
use Rattle.asn1_module.specs.graph.Tables.{MarksWell}
use Rattle.asn1_module.proofs.graph.paths.mark_next.Given as goal

abbrev pub invariant-loop-edge : goal.invariant-loop-edge
invariant-loop-edge l = MarksWell (length l.fn.table) l.steps.edges.now l.start l.table
