use Rattle.proof_unit_steps.proofs.tunnel_frames.CuUps.{cu_up_numbers}
use Rattle.proof_unit_steps.proofs.tunnel_frames.a_cu_up_numbers_a_tunnel.Goals as goal

pub returns : goal.returns
returns g c = λ way t count r input order counts first. cu_up_numbers t way count r input order counts first
