use Rattle.law_values.proofs.Lines.{not_refused}
use Rattle.law_values.proofs.a_line_with_an_answer_is_not_refused.Goals as goal

pub returns : goal.returns
returns c = not_refused
