use Rattle.std.proofs.Common.{take}
use Rattle.asn1_module.specs.graph.Tables.{Falls}
use Rattle.asn1_module.proofs.graph.paths.falls.Given as goal

abbrev pub invariant-loop-edge : goal.invariant-loop-edge
invariant-loop-edge l = Falls l.ranks (take l.edge-index l.edges)
