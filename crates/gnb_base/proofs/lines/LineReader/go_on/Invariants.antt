use Rattle.std.proofs.Common.{◌+◌, ◌-◌}
use Rattle.gnb_base.specs.Reading.{input_limit}
use Rattle.gnb_base.proofs.Turns.{SoFar}
use Rattle.gnb_base.proofs.lines.LineReader.go_on.Given as goal

abbrev pub invariant-loop-answer : goal.invariant-loop-answer
invariant-loop-answer g l =
    SoFar l.fn.self l.self (g.S.Source.at l.fn.source) (g.S.Source.at l.source)

abbrev pub decreases-loop-answer : goal.decreases-loop-answer
decreases-loop-answer g l = input_limit + 1 - l.self.taken
