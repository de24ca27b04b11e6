use Rattle.std.proofs.Common.{◌≡◌, drop, slice_get}
use Rattle.asn1_defs.specs.Targets.{type_ids}
use Rattle.asn1_module.proofs.module.nth_type.Given as goal

abbrev pub invariant-loop-assignment : goal.invariant-loop-assignment
invariant-loop-assignment l = slice_get (type_ids (drop l.assignment-index l.assignments)) l.left ≡ slice_get (type_ids l.assignments) l.i
