use Rattle.law_tunnels_are_owned.proofs.open_tunnels.Dus.{du_fits}
use Rattle.law_tunnels_are_owned.proofs.open_tunnels.a_du_shows_what_it_opens.Goals as goal

pub returns : goal.returns
returns g c = λ way r input. du_fits way r input
