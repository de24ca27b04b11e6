use Rattle.law_dup.proofs.text.Wrong.{refused_wrong, wrong_refused}
use Rattle.law_dup.proofs.text.the_first_wrong_word_decides.Goals as goal

pub returns : goal.returns
returns c = λ line reason. (refused_wrong line reason, wrong_refused line reason)
