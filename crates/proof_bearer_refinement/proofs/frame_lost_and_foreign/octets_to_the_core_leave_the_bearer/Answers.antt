use Rattle.proof_bearer_refinement.proofs.frame_lost_and_foreign.Left.{read_left}
use Rattle.proof_bearer_refinement.proofs.frame_lost_and_foreign.octets_to_the_core_leave_the_bearer.Goals as goal

pub returns : goal.returns
returns c = λ reading n ue bearer s t from octets outputs core lines answers goes_on. read_left n ue bearer s t reading from octets outputs core lines answers goes_on
