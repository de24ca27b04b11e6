use Rattle.law_handover_delivers.proofs.assumed_runs.Runs.{all_steps}
use Rattle.law_handover_delivers.proofs.assumed_runs.steps_ask_what_is_assumed.Goals as goal

pub returns : goal.returns
returns c = λ reading n ue bearer sn quota p q positive. all_steps reading n ue bearer sn quota positive p q
