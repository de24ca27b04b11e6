use Rattle.law_requests_act_once.proofs.channel_rows.Goes.{goes_on}
use Rattle.law_requests_act_once.proofs.channel_rows.a_step_goes_on.Goals as goal

pub returns : goal.returns
returns g c = λ talk orders may n kept outputs r made. goes_on talk orders may n (kept r) outputs made.0 made.1 made.2
