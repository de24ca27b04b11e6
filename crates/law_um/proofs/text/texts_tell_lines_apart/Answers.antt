use Rattle.law_um.proofs.text.LineLaws.{one_line}
use Rattle.law_um.proofs.text.texts_tell_lines_apart.Goals as goal

pub returns : goal.returns
returns c = one_line
