use Rattle.std.proofs.Common.{◌≡◌, ◌+◌, ◌≤◌, length, drop}
use Rattle.asn1_defs.specs.Targets.{type_ids}
use Rattle.asn1_module.proofs.module.type_count.Given as goal

abbrev pub invariant-loop-assignment : goal.invariant-loop-assignment
invariant-loop-assignment l = record {
  counted : l.count + length (type_ids (drop l.assignment-index l.assignments)) ≡ length (type_ids l.assignments);
  within : l.count ≤ l.assignment-index;
}
