use Rattle.law_handover_delivers.proofs.downlink_path_links.Homes.{home_found, home_at}
use Rattle.law_handover_delivers.proofs.downlink_path_links.a_tunnel_of_a_du_is_its_bearers.Goals as goal

pub returns : goal.returns
returns c = λ ue bearer r home owns there. (home_found ue bearer r owns home there, λ teid found. home_at ue bearer r owns home there teid found)
