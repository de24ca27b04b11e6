use Rattle.gnb_base.proofs.Turns.{meets_so_far}
use Rattle.gnb_base.proofs.lines.LineReader.go_on.Goals as goal

pub returns-in-Some : goal.returns-in-Some
returns-in-Some g c = meets_so_far _ _ _ _ _ _ c.loop-answer.invariant _ c.in-Some.ensures
