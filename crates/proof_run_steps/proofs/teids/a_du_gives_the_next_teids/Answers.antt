use Rattle.proof_run_steps.proofs.teids.Dus.{du_gives}
use Rattle.proof_run_steps.proofs.teids.a_du_gives_the_next_teids.Goals as goal

pub returns : goal.returns
returns g c = λ way r input. du_gives way r input
