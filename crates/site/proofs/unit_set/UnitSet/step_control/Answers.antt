use Rattle.site.proofs.Sets.{a_gives_at, b_gives_at}
use Rattle.site.proofs.unit_set.UnitSet.step_control.Goals as goal

pub returns-in-A-clause-gives : goal.returns-in-A-clause-gives
returns-in-A-clause-gives g c =
    a_gives_at g.C.MessageCodec.codec c.args.self.now c.requires c.args.input c.step.new.self c.args.gnb c.in-A.is c.step.result c.step.ensures

pub returns-in-B-clause-gives : goal.returns-in-B-clause-gives
returns-in-B-clause-gives g c =
    b_gives_at g.C.MessageCodec.codec c.args.self.now c.requires c.args.input c.step-in-B.new.self c.args.gnb c.in-B.is c.step-in-B.result c.step-in-B.ensures
