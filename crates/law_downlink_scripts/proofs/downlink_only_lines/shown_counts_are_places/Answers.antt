use Rattle.law_downlink_scripts.proofs.downlink_only_lines.Runs.{counts_mean}
use Rattle.law_downlink_scripts.proofs.downlink_only_lines.shown_counts_are_places.Goals as goal

pub returns : goal.returns
returns c = λ reading events are. counts_mean reading events are
