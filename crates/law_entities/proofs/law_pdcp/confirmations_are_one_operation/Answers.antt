use Rattle.law_entities.proofs.law_pdcp.Confirming.{to_is_confirmed, by_is_confirmed, confirmed_together, confirmed_in_any_order, confirmed_again}
use Rattle.law_entities.proofs.law_pdcp.confirmations_are_one_operation.Goals as goal

pub returns : goal.returns
returns c = record { up_to = to_is_confirmed; report = by_is_confirmed; together = confirmed_together; any_order = confirmed_in_any_order; again = confirmed_again }
