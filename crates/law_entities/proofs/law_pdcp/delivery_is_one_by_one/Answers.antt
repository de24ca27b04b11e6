use Rattle.law_entities.proofs.law_pdcp.Delivering.{one_by_one, nothing_more}
use Rattle.law_entities.proofs.law_pdcp.delivery_is_one_by_one.Goals as goal

pub returns : goal.returns
returns c = record { some = one_by_one; none = nothing_more }
