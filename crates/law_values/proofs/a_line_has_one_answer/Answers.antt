use Rattle.law_values.proofs.Lines.{one_answer}
use Rattle.law_values.proofs.a_line_has_one_answer.Goals as goal

pub returns : goal.returns
returns c = one_answer
