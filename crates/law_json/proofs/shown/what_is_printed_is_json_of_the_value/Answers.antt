use Rattle.proof_json.proofs.shown.Law.{printed_is}
use Rattle.law_json.proofs.shown.what_is_printed_is_json_of_the_value.Goals as goal

pub returns : goal.returns
returns c = printed_is
