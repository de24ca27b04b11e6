use Rattle.law_downlink_order.proofs.chain.Laws.{delivers_in_order}
use Rattle.law_downlink_order.proofs.chain.delivers_a_prefix.Goals as goal

pub returns : goal.returns
returns c = record { in_order = λ sn quota first teid orders kept. delivers_in_order sn quota first teid orders kept }
