use Rattle.std.proofs.Common.{◌≡◌, drop}
use Rattle.asn1_defs.specs.Names.{first_unknown}
use Rattle.asn1_module.proofs.names.first_unknown.Given as goal

abbrev pub invariant-loop-number : goal.invariant-loop-number
invariant-loop-number l = first_unknown l.assignments (drop l.number l.nodes) ≡ first_unknown l.assignments l.nodes
