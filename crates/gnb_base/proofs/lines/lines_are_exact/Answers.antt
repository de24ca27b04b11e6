use Rattle.gnb_base.proofs.LinesOf.{are_lines, only_lines}
use Rattle.gnb_base.proofs.lines.lines_are_exact.Goals as goal

pub returns-clause-found : goal.returns-clause-found
returns-clause-found c = are_lines

pub returns-clause-only : goal.returns-clause-only
returns-clause-only c = only_lines
