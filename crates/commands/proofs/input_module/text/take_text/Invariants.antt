use Rattle.gnb_base.specs.Reading.{still_to_come}
use Rattle.commands.specs.input_module.inside.Steps.{text_at}
use Rattle.commands.proofs.input_module.Gathering.{SoFar}
use Rattle.commands.proofs.input_module.text.take_text.Given as goal

-- the lines so far
abbrev pub invariant-loop-gathered : goal.invariant-loop-gathered
invariant-loop-gathered g l =
    SoFar l.fn.newest (g.S.Source.at l.fn.input) (text_at l.reader (g.S.Source.at l.input) l.gathered.octets) l.gathered.header l.gathered.last

abbrev pub decreases-loop-gathered : goal.decreases-loop-gathered
decreases-loop-gathered g l = still_to_come l.reader
