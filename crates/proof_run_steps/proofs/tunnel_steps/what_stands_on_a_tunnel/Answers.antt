use Rattle.proof_run_steps.proofs.tunnel_steps.Tracks.{acts_so, puts_so}
use Rattle.proof_run_steps.proofs.tunnel_steps.what_stands_on_a_tunnel.Goals as goal

pub returns-clause-acts : goal.returns-clause-acts
returns-clause-acts g c = λ world cause outputs units s t lines end. acts_so world end cause outputs units s t lines

pub returns-clause-puts : goal.returns-clause-puts
returns-clause-puts g c = λ world node taken outputs s t lines end. puts_so world end node taken outputs s t lines
