use Rattle.site.proofs.Sets.{terminal_works, terminal_gives, terminal_goes_on}
use Rattle.site.proofs.unit_set.UnitSet.step_terminal.Goals as goal

pub step-requires-clause-works : goal.step-requires-clause-works
step-requires-clause-works g c = terminal_works c.args.self.now c.args.ue c.requires.works

pub returns-clause-works : goal.returns-clause-works
returns-clause-works g c =
    terminal_goes_on g.C.MessageCodec.codec c.args.self.now c.requires.works c.args.input c.args.ue c.step.new.terminals c.step.result c.step.ensures

pub returns-clause-gives : goal.returns-clause-gives
returns-clause-gives g c =
    terminal_gives g.C.MessageCodec.codec c.args.self.now c.requires.works c.args.input c.args.ue c.step.new.terminals c.step.result c.step.ensures
