use Rattle.law_downlink_scripts.proofs.downlink_only_counts.Places.{counts_in_runs}
use Rattle.law_downlink_scripts.proofs.downlink_only_counts.counts_are_places.Goals as goal

pub returns : goal.returns
returns c = λ reading events are t is. counts_in_runs reading events are t is
