use Rattle.law_downlink_order.proofs.chain.Laws.{no_duplicate}
use Rattle.law_downlink_order.proofs.chain.drops_no_forwarded_packet.Goals as goal

pub returns : goal.returns
returns c = record { none = λ sn quota first teid orders kept. no_duplicate sn quota first teid orders kept }
