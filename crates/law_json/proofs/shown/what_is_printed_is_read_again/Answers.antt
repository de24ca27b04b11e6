use Rattle.proof_json.proofs.shown.Law.{read_again}
use Rattle.law_json.proofs.shown.what_is_printed_is_read_again.Goals as goal

pub returns : goal.returns
returns c = read_again
