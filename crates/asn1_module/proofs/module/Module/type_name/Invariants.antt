use Rattle.std.proofs.Common.{◌≡◌, drop}
use Rattle.asn1_defs.specs.Targets.{type_name}
use Rattle.asn1_module.proofs.module.Module.type_name.Given as goal

abbrev pub invariant-loop-assignment : goal.invariant-loop-assignment
invariant-loop-assignment l = type_name l.id (drop l.assignment-index l.assignment-items) ≡ type_name l.id l.assignment-items
