use Rattle.std.proofs.Common.{length}
use Rattle.asn1_module.specs.graph.Tables.{MarksWell}
use Rattle.asn1_module.proofs.graph.PathLemmas.{slack}
use Rattle.asn1_module.proofs.graph.paths.mark_all.Given as goal

abbrev pub invariant-loop : goal.invariant-loop
invariant-loop l = MarksWell (length l.fn.table) l.steps.edges.now l.start l.table

abbrev pub decreases-loop : goal.decreases-loop
decreases-loop l = slack 1 l.table
