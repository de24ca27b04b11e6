use Rattle.law_requests_act_once.proofs.cu_cp_deadlines.Acts.{can_cancel}
use Rattle.law_requests_act_once.proofs.cu_cp_deadlines.what_expires_can_be_cancelled.Goals as goal

pub returns : goal.returns
returns g c = λ r h. can_cancel r h
