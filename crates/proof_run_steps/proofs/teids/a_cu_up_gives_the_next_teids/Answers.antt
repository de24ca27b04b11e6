use Rattle.proof_run_steps.proofs.teids.CuUps.{cu_up_gives}
use Rattle.proof_run_steps.proofs.teids.a_cu_up_gives_the_next_teids.Goals as goal

pub returns : goal.returns
returns g c = λ way r input. cu_up_gives way r input
