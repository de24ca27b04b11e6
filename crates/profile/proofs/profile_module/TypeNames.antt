-- The names that the comparison asks for are those of the profile's types, and its types are shallow enough for it.
use Rattle.std.proofs.Common.{◌≡◌, true, refl}
use Rattle.message_defs.specs.profile_defs.Profile.{profile_types}
use Rattle.message_defs.specs.profile_defs.Agreement.{by_name}
use Rattle.profile.specs.profile_module.inside.Same.{own_names}
use Rattle.profile.proofs.profile_module.Differing.{names_of, are_shallow}

pub type_names : own_names ≡ names_of (by_name (profile_types 1))
unfolding profile_types
type_names = refl

pub shallow : are_shallow (by_name (profile_types 1)) ≡ true
unfolding profile_types
shallow = refl
