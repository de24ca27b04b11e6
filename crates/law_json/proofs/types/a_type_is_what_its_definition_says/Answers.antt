use Rattle.proof_json.proofs.types.Unfolded.{named_is}
use Rattle.law_json.proofs.types.a_type_is_what_its_definition_says.Goals as goal

pub returns : goal.returns
returns c = named_is
