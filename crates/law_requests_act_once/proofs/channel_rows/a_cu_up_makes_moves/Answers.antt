use Rattle.law_requests_act_once.specs.channel.Moves.{new_net, after}
use Rattle.law_requests_act_once.proofs.channel.Kept.{good_of}
use Rattle.law_requests_act_once.proofs.channel.Nets.{Good}
use Rattle.law_requests_act_once.proofs.channel_rows.Undated.{nothing_due, sorted_of}
use Rattle.law_requests_act_once.proofs.channel_rows.CuUps.{cu_up_made, cu_up_undated}
use Rattle.law_requests_act_once.proofs.channel_rows.a_cu_up_makes_moves.Goals as goal

pub returns : goal.returns
returns g c = λ talk reads orders may n none r at undated input put. (
  cu_up_made talk n reads (after talk new_net orders) (good_of talk orders may) none r at (nothing_due r.transactions undated) input put,
  cu_up_undated talk n r (sorted_of talk (good_of talk orders may) n r.transactions at) undated input,
)
