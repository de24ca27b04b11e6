use Rattle.std.proofs.Common.{ℕ, ◌+◌, ◌<◌}
use Rattle.asn1_defs.specs.Paths.{Leads}
use Rattle.asn1_module.proofs.graph.paths.first_looping.Given as goal

abbrev pub invariant-loop-vertex : goal.invariant-loop-vertex
invariant-loop-vertex l = (k : ℕ) → l.base + k < l.vertex → Leads l.count l.edges (l.base + k) (l.base + k) → ⊥
