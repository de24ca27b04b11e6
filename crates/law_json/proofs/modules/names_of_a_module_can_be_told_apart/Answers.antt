use Rattle.proof_json.proofs.again.Apart.{apart}
use Rattle.law_json.proofs.modules.names_of_a_module_can_be_told_apart.Goals as goal

pub returns : goal.returns
returns c = apart
