use Rattle.law_json.proofs.one.Law.{one_tree}
use Rattle.law_json.proofs.one.json_of_a_value_is_one_tree.Goals as goal

pub returns : goal.returns
returns c = one_tree
