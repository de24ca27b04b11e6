use Rattle.proof_json.proofs.again.Law.{shown, again}
use Rattle.law_json.proofs.modules.a_printed_value_is_read_again.Goals as goal

pub returns-clause-is : goal.returns-clause-is
returns-clause-is c = shown

pub returns-clause-again : goal.returns-clause-again
returns-clause-again c = again
