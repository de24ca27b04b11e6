use Rattle.std.proofs.Common.{length}
use Rattle.profile.proofs.profile_module.sets.+are_same_procedures.Given as goal

abbrev pub decreases-are_same_procedures : goal.decreases-are_same_procedures
decreases-are_same_procedures l = length l.a.now
