use Rattle.law_requests_act_once.proofs.channel.Kept.{good_of}
use Rattle.law_requests_act_once.proofs.channel.every_channel_is_exact.Goals as goal

pub returns : goal.returns
returns g c = λ talk orders may r. (good_of talk orders may).channels r
