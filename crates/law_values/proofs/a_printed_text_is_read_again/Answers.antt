use Rattle.values_json.proofs.Again.{text_again}
use Rattle.law_values.proofs.a_printed_text_is_read_again.Goals as goal

pub returns : goal.returns
returns c = text_again
