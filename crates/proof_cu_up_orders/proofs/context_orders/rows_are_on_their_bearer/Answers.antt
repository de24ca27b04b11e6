use Rattle.proof_cu_up_orders.proofs.context_orders.Others.{off_uplink, off_switched, off_frozen, off_status, off_resumed, off_took, off_framed}
use Rattle.proof_cu_up_orders.proofs.context_orders.rows_are_on_their_bearer.Goals as goal

pub returns : goal.returns
returns g c = record {
  uplinks = λ way ue bearer teid b. off_uplink way ue bearer teid b;
  switches = λ way ue bearer at other du teid b. off_switched way ue bearer at other du teid b;
  freezes = λ way ue bearer at other peer down up b. off_frozen way ue bearer at other peer down up b;
  statuses = λ way ue bearer at other s b. off_status way ue bearer at other s b;
  resumes = λ way ue bearer at other b. off_resumed way ue bearer at other b;
  items = λ way ue bearer at other kind teid item b. off_took way ue bearer at other kind teid item b;
  frames = λ way ue bearer at other poll restart pdu tag b. off_framed way ue bearer at other poll restart pdu tag b;
}
