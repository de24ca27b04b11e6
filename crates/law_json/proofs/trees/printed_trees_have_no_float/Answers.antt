use Rattle.proof_json.proofs.floats.Floats.{printed_whole}
use Rattle.law_json.proofs.trees.printed_trees_have_no_float.Goals as goal

pub returns : goal.returns
returns c = printed_whole
