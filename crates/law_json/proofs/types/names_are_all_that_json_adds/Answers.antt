use Rattle.proof_json.proofs.modules.Forgotten.{forgotten}
use Rattle.law_json.proofs.types.Law.{value_of_tree}
use Rattle.law_json.proofs.types.names_are_all_that_json_adds.Goals as goal

pub returns-clause-tree : goal.returns-clause-tree
returns-clause-tree c = forgotten

pub returns-clause-values : goal.returns-clause-values
returns-clause-values c = value_of_tree
