use Rattle.std.proofs.Common.{length}
use Rattle.profile.proofs.profile_module.members.+are_same_added.Given as goal

abbrev pub decreases-are_same_added : goal.decreases-are_same_added
decreases-are_same_added l = length l.a.now
