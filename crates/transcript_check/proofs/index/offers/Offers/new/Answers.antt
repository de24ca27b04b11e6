use Rattle.transcript_check.proofs.OfferLemmas.{known_none}
use Rattle.transcript_check.proofs.index.offers.Offers.new.Goals as goal

pub invariant_of-result : goal.invariant_of-result
invariant_of-result c = known_none c.new-2.result c.new.result.items c.new-2.ensures c.new.ensures.items
