use Rattle.law_downlink_scripts.proofs.downlink_only_counts.Next.{next_in_runs}
use Rattle.law_downlink_scripts.proofs.downlink_only_counts.what_is_carried_is_delivered.Goals as goal

pub returns : goal.returns
returns c = λ reading events are t is ue bearer home item u has ready found there some.
    next_in_runs reading events are t is ue bearer home item u has ready found there some
