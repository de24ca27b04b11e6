use Rattle.std.proofs.Common.{◌≡◌, drop}
use Rattle.asn1_defs.specs.Targets.{procedure_rows}
use Rattle.asn1_module.proofs.module.find_procedure_rows.Given as goal

abbrev pub invariant-loop-assignment : goal.invariant-loop-assignment
invariant-loop-assignment l = procedure_rows l.set (drop l.assignment-index l.assignments) ≡ procedure_rows l.set l.assignments
