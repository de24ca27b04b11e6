use Rattle.proof_json.proofs.order.Ordered.{printed_ordered}
use Rattle.law_json.proofs.trees.printed_members_are_in_order.Goals as goal

pub returns : goal.returns
returns c = printed_ordered
