use Rattle.site.proofs.Ready.{begun, ready_step}
use Rattle.site.proofs.site.SiteUnits.step.Goals as goal

pub returns-clause-ready : goal.returns-clause-ready
returns-clause-ready g c =
    ready_step c.in-Some.units c.step.new.self (begun c.args.self.now.units c.in-Some.units c.in-Some.is c.requires.ready).1 g.C.MessageCodec.codec
    c.args.node c.args.input c.step.result c.step.ensures.works c.step.ensures.gives
