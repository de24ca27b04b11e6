use Rattle.proof_json.proofs.again.Depth.{printed_depth, never_too_deep}
use Rattle.law_json.proofs.trees.printed_trees_are_shallow.Goals as goal

pub returns-clause-depth : goal.returns-clause-depth
returns-clause-depth c = printed_depth

pub returns-clause-read : goal.returns-clause-read
returns-clause-read c = never_too_deep
