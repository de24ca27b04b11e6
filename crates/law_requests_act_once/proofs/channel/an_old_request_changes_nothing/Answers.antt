use Rattle.law_requests_act_once.specs.channel.Moves.{new_net, after, answered_by}
use Rattle.law_requests_act_once.proofs.channel.Kept.{good_of}
use Rattle.law_requests_act_once.proofs.channel.Exactly.{in_vain}
use Rattle.law_requests_act_once.proofs.channel.an_old_request_changes_nothing.Goals as goal

pub returns : goal.returns
returns g c = λ talk orders may n c i x same row put old.
    in_vain talk (after talk new_net orders) n c ((good_of talk orders may).channels (answered_by n c)) i x same row put old
