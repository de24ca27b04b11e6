use Rattle.proof_run_steps.proofs.answerers.Runs.{all_answer_own}
use Rattle.proof_run_steps.proofs.answerers.only_dus_tell_of_downlinks.Goals as goal

pub returns : goal.returns
returns c = λ reading events t is. all_answer_own reading events t is
