use Rattle.law_requests_act_once.specs.channel.Moves.{new_net, after}
use Rattle.law_requests_act_once.proofs.channel.Kept.{good_of}
use Rattle.law_requests_act_once.proofs.channel_rows.CpTicks.{cu_cp_made}
use Rattle.law_requests_act_once.proofs.channel_rows.a_cu_cp_makes_moves.Goals as goal

pub returns : goal.returns
returns g c = λ talk reads orders may n none r at owes cancels input put.
    cu_cp_made talk n reads (after talk new_net orders) (good_of talk orders may) none r at owes cancels input put
