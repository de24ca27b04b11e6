use Rattle.law_requests_act_once.specs.channel.Ends.{Put}
use Rattle.law_requests_act_once.specs.channel.Moves.{new_net, after}
use Rattle.law_requests_act_once.proofs.channel.Kept.{good_of}
use Rattle.law_requests_act_once.proofs.channel.Exactly.{descends, only_cancels}
use Rattle.law_requests_act_once.proofs.channel.requests_act_in_the_order_of_issue.Goals as goal

pub returns : goal.returns
returns g c = record {
  order = λ talk orders may r.
      descends talk (Put talk (after talk new_net orders).bag r) ((after talk new_net orders).acts r) ((good_of talk orders may).channels r).acts;
  only_cancels = λ talk orders may r i x put past. only_cancels talk ((good_of talk orders may).channels r) i x put past;
}
