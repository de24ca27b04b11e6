use Rattle.site.specs.Sites.{records_of}
use Rattle.site.proofs.Sets.{core_gives}
use Rattle.site.proofs.unit_set.UnitSet.step.Goals as goal

pub returns-in-Core-clause-gives : goal.returns-in-Core-clause-gives
returns-in-Core-clause-gives g c =
    core_gives g.C.MessageCodec.codec (records_of c.args.self.now) c.args.node c.args.input c.new.result c.in-Core.is c.new.ensures
