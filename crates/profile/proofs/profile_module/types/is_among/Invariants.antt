use Rattle.std.proofs.Common.{◌≡◌, drop, map}
use Rattle.profile.specs.profile_module.inside.Same.{is_among}
use Rattle.profile.proofs.profile_module.types.is_among.Given as goal

abbrev pub invariant-loop-other : goal.invariant-loop-other
invariant-loop-other l = is_among l.name (map (λ other. other.now) (drop l.other-index l.names)) ≡ is_among l.name (map (λ other. other.now) l.names)
