use Rattle.std.proofs.Common.{sym, subst}
use Rattle.message_defs.specs.profile_defs.Profile.{profile_types}
use Rattle.message_defs.specs.profile_defs.Agreement.{Agrees}
use Rattle.profile.proofs.profile_module.agreement.agrees.Goals as goal

pub differing-requires : goal.differing-requires
differing-requires c = subst (Agrees (profile_types 1)) (sym c.module-own.ensures.syntax) c.in_ok-profile.ensures.agrees
