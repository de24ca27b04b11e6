use Rattle.law_values.proofs.Again.{encoded_again}
use Rattle.law_values.proofs.what_is_decoded_is_encoded_again.Goals as goal

pub returns : goal.returns
returns c = encoded_again
