use Rattle.std.proofs.Common.{sym, ap, ◌∙◌}
use Rattle.aper_defs.specs.Reading.{judged}
use Rattle.aper_cursor.specs.declared.questions.Question.{Question}
use Rattle.aper_cursor.specs.Questions.{question_of}
use Rattle.aper_cursor.proofs.questions.Question.judged.Goals as goal

pub returns-in-Digits : goal.returns-in-Digits
returns-in-Digits c = λ d. c.judged_digits.ensures d ∙ ap (λ (q : Question). judged (question_of q) d c.args.number) (sym c.in-Digits.is)

pub returns-in-IeId : goal.returns-in-IeId
returns-in-IeId c = λ d. c.judged_id.ensures d ∙ ap (λ (q : Question). judged (question_of q) d c.args.number) (sym c.in-IeId.is)

pub returns-in-Signed : goal.returns-in-Signed
returns-in-Signed c = λ d. c.judged_signed.ensures d ∙ ap (λ (q : Question). judged (question_of q) d c.args.number) (sym c.in-Signed.is)
