use Rattle.gnb_base.specs.Reading.{still_to_come}
use Rattle.command_verify.specs.inside.Turns.{judged_at, SoFar}
use Rattle.command_verify.proofs.judging.judge.Given as goal

-- what was judged so far
abbrev pub invariant-loop-number : goal.invariant-loop-number
invariant-loop-number g l =
    SoFar (g.P.Spells.spelling l.fn.spells) (g.S.Source.at l.fn.input) (judged_at l.reader (g.S.Source.at l.input) l.checker l.count)

abbrev pub decreases-loop-number : goal.decreases-loop-number
decreases-loop-number g l = still_to_come l.reader
