use Rattle.std.proofs.Common.{◌≡◌, drop}
use Rattle.asn1_defs.specs.Targets.{ie_rows}
use Rattle.asn1_module.proofs.module.find_ie_rows.Given as goal

abbrev pub invariant-loop-assignment : goal.invariant-loop-assignment
invariant-loop-assignment l = ie_rows l.set (drop l.assignment-index l.assignments) ≡ ie_rows l.set l.assignments
