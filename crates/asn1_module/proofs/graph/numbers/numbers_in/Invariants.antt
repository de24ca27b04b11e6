use Rattle.std.proofs.Common.{◌≡◌, ◌++◌, drop}
use Rattle.asn1_defs.specs.Numbers.{all_numbers}
use Rattle.asn1_module.proofs.graph.numbers.numbers_in.Given as goal

abbrev pub invariant-loop-node : goal.invariant-loop-node
invariant-loop-node l =
    l.numbers.items ++ all_numbers l.syntax.assignments (drop l.node-index l.syntax.nodes) ≡ all_numbers l.syntax.assignments l.syntax.nodes
