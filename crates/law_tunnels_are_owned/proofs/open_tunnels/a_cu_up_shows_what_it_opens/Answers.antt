use Rattle.law_tunnels_are_owned.proofs.open_tunnels.CuUps.{cu_up_fits}
use Rattle.law_tunnels_are_owned.proofs.open_tunnels.a_cu_up_shows_what_it_opens.Goals as goal

pub returns : goal.returns
returns g c = λ way r input. cu_up_fits way r input
