use Rattle.std.proofs.Common.{◌≡◌, drop, map}
use Rattle.asn1_defs.specs.Targets.{type_ids}
use Rattle.profile.specs.profile_module.inside.Same.{first_new}
use Rattle.profile.proofs.profile_module.types.first_new.Given as goal

abbrev pub invariant-loop-i : goal.invariant-loop-i
invariant-loop-i l =
    first_new (map (λ name. name.now) l.names) l.module.assignments (drop l.i (type_ids l.module.assignments))
    ≡ first_new (map (λ name. name.now) l.names) l.module.assignments (type_ids l.module.assignments)
