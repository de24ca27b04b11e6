use Rattle.law_requests_act_once.proofs.channel.Exactly.{asks_waits, at_once_waits, advances_waits}
use Rattle.law_requests_act_once.proofs.channel.what_waits_waits_for_an_open_request.Goals as goal

pub returns : goal.returns
returns g c = record { asked = λ talk. asks_waits talk; at_once = λ talk. at_once_waits talk; advanced = λ talk. advances_waits talk }
