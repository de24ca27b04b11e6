use Rattle.std.proofs.Common.{length}
use Rattle.profile.proofs.profile_module.sets.+are_same_elements.Given as goal

abbrev pub decreases-are_same_elements : goal.decreases-are_same_elements
decreases-are_same_elements l = length l.a.now
