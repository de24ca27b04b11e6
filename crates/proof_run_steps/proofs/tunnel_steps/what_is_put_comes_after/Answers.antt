use Rattle.proof_run_steps.proofs.tunnel_steps.Tracks.{comes_after}
use Rattle.proof_run_steps.proofs.tunnel_steps.what_is_put_comes_after.Goals as goal

pub returns : goal.returns
returns g c = λ end node taken outputs items. comes_after end node taken outputs items
