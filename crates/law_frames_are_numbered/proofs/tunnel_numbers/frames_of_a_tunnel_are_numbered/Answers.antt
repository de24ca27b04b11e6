use Rattle.law_frames_are_numbered.proofs.tunnel_numbers.Runs.{run_is_numbered}
use Rattle.law_frames_are_numbered.proofs.tunnel_numbers.frames_of_a_tunnel_are_numbered.Goals as goal

pub returns : goal.returns
returns c = λ reading events end. run_is_numbered reading events end
