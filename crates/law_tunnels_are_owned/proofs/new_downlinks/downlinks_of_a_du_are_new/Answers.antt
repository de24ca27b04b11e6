use Rattle.law_tunnels_are_owned.proofs.new_downlinks.New.{is_new}
use Rattle.law_tunnels_are_owned.proofs.new_downlinks.downlinks_of_a_du_are_new.Goals as goal

pub returns : goal.returns
returns c = λ way ue bearer r left input outputs answers. is_new way ue bearer r left input outputs answers
