use Rattle.std.proofs.Common.{◌≡◌, drop}
use Rattle.asn1_defs.specs.Targets.{find_type}
use Rattle.asn1_module.proofs.module.find_type.Given as goal

abbrev pub invariant-loop-assignment : goal.invariant-loop-assignment
invariant-loop-assignment l = find_type l.name (drop l.assignment-index l.assignments) ≡ find_type l.name l.assignments
