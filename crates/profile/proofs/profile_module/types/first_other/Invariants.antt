use Rattle.std.proofs.Common.{◌≡◌, drop, map}
use Rattle.profile.specs.profile_module.inside.Same.{first_other}
use Rattle.profile.proofs.profile_module.types.first_other.Given as goal

abbrev pub invariant-loop-name : goal.invariant-loop-name
invariant-loop-name l =
    first_other l.profile l.module (map (λ name. name.now) (drop l.name-index l.names)) ≡ first_other l.profile l.module (map (λ name. name.now) l.names)
