use Rattle.law_requests_act_once.proofs.taken_requests.CuUps.{not_new, cu_up_still, cu_up_taken}
use Rattle.law_requests_act_once.proofs.taken_requests.a_cu_up_forgets_no_request.Goals as goal

pub returns-clause-still : goal.returns-clause-still
returns-clause-still g c = λ way r input. cu_up_still way r input

pub returns-clause-taken : goal.returns-clause-taken
returns-clause-taken g c = λ way r input. cu_up_taken way r input

pub returns-clause-not_new : goal.returns-clause-not_new
returns-clause-not_new g c = λ t ch i was. not_new (t.callee) ch i was
