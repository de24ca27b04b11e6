use Rattle.law_uplink_order.proofs.uplink.Laws.{counts_are_places}
use Rattle.law_uplink_order.proofs.uplink.counts_are_places.Goals as goal

pub returns : goal.returns
returns c = record { places = λ first teid orders kept. counts_are_places first teid orders kept }
