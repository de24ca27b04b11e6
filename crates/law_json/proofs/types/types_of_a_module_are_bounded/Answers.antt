use Rattle.proof_json.proofs.modules.Bounded.{bounded}
use Rattle.law_json.proofs.types.types_of_a_module_are_bounded.Goals as goal

pub returns : goal.returns
returns c = bounded
