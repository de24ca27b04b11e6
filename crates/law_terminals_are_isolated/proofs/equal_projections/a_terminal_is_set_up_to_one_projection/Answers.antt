use Rattle.law_terminals_are_isolated.proofs.equal_projections.Placed.{placed_agree}
use Rattle.law_terminals_are_isolated.proofs.equal_projections.a_terminal_is_set_up_to_one_projection.Goals as goal

pub returns : goal.returns
returns c = λ plan ue u v its h up du owned also. placed_agree plan ue its u v h up du owned also
