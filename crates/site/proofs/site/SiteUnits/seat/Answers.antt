use Rattle.site.proofs.Ready.{begun, ready_seat}
use Rattle.site.proofs.site.SiteUnits.seat.Goals as goal

pub returns-clause-ready : goal.returns-clause-ready
returns-clause-ready g c =
    ready_seat c.in-Some.units c.seat.new.self (begun c.args.self.now.units c.in-Some.units c.in-Some.is c.requires.ready).1 c.args.plan c.seat.result
    c.seat.ensures.works c.seat.ensures.records
