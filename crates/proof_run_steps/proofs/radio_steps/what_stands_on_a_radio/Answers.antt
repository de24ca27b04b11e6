use Rattle.proof_run_steps.proofs.radio_steps.Tracks.{acts_so, puts_so}
use Rattle.proof_run_steps.proofs.radio_steps.what_stands_on_a_radio.Goals as goal

pub returns-clause-acts : goal.returns-clause-acts
returns-clause-acts g c = λ world cause outputs units s t lines key. acts_so world key cause outputs units s t lines

pub returns-clause-puts : goal.returns-clause-puts
returns-clause-puts g c = λ world node taken outputs s t lines key. puts_so world key node taken outputs s t lines
