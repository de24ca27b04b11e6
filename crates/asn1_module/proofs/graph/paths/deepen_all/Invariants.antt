use Rattle.std.proofs.Common.{length}
use Rattle.asn1_module.specs.graph.Walks.{depth_cap}
use Rattle.asn1_module.specs.graph.Tables.{TellsWell}
use Rattle.asn1_module.proofs.graph.PathLemmas.{slack}
use Rattle.asn1_module.proofs.graph.paths.deepen_all.Given as goal

abbrev pub invariant-loop : goal.invariant-loop
invariant-loop l = TellsWell (length l.weights) l.edges l.weights l.table

abbrev pub decreases-loop : goal.decreases-loop
decreases-loop l = slack depth_cap l.table
