use Rattle.law_requests_act_once.specs.channel.Moves.{new_net, after, asked_by}
use Rattle.law_requests_act_once.proofs.channel.Kept.{good_of}
use Rattle.law_requests_act_once.proofs.channel.Exactly.{awaited_is_answered, not_awaited}
use Rattle.law_requests_act_once.proofs.channel.a_reply_is_to_the_open_request.Goals as goal

pub returns : goal.returns
returns g c = record {
  awaited = λ talk orders may n c i y put is.
      awaited_is_answered talk (after talk new_net orders) n c ((good_of talk orders may).channels (asked_by n c)) i y put is;
  other = λ talk t c i same row is. not_awaited talk t c i same row is;
}
