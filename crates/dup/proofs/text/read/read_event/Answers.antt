use Rattle.dup.proofs.text.EventLaws.{given_in_range}
use Rattle.dup.proofs.text.read.read_event.Goals as goal

pub returns-clause-in_range : goal.returns-clause-in_range
returns-clause-in_range c = given_in_range c.args.line.now c.event.result c.event.ensures
