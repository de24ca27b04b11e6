use Rattle.law_uplink_order.proofs.uplink.Laws.{delivers_in_order}
use Rattle.law_uplink_order.proofs.uplink.delivers_a_prefix.Goals as goal

pub returns : goal.returns
returns c = record { in_order = λ first teid orders kept. delivers_in_order first teid orders kept }
