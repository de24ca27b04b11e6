use Rattle.law_uplink_order.proofs.uplink.Laws.{delivers_all}
use Rattle.law_uplink_order.proofs.uplink.delivers_all.Goals as goal

pub returns : goal.returns
returns c = record { when_quiet = λ first teid orders kept quiet. delivers_all first teid orders kept quiet }
