use Rattle.std.proofs.Common.{◌≡◌, ◌++◌, drop}
use Rattle.asn1_defs.specs.Judgement.{node_weights}
use Rattle.asn1_module.proofs.judgement.node_weights.Given as goal

abbrev pub invariant-loop-node : goal.invariant-loop-node
invariant-loop-node l = l.weights.items ++ node_weights (drop l.node-index l.nodes) ≡ node_weights l.nodes
