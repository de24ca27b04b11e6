use Rattle.law_downlink_scripts.proofs.downlink_only_runs.Runs.{runs_deliver}
use Rattle.law_downlink_scripts.proofs.downlink_only_runs.what_is_offered_is_delivered_in_order.Goals as goal

pub returns : goal.returns
returns c = λ reading events are ue bearer. runs_deliver reading events are ue bearer
