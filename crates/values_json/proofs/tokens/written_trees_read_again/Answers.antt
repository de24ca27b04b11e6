use Rattle.serde_json.proofs.Texts.{print-outline}
use Rattle.values_json.proofs.tokens.Texts.{reads_again}
use Rattle.values_json.proofs.tokens.written_trees_read_again.Goals as goal

pub returns-clause-text : goal.returns-clause-text
returns-clause-text c = print-outline

pub returns-clause-again : goal.returns-clause-again
returns-clause-again c = reads_again
