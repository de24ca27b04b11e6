use Rattle.law_downlink_order.proofs.chain.Laws.{counts_are_places}
use Rattle.law_downlink_order.proofs.chain.counts_are_places.Goals as goal

pub returns : goal.returns
returns c = record { places = λ sn quota first teid orders kept. counts_are_places sn quota first teid orders kept }
