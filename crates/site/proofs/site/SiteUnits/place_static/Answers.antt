use Rattle.site.proofs.Ready.{begun, ready_place}
use Rattle.site.proofs.site.SiteUnits.place_static.Goals as goal

pub returns-clause-ready : goal.returns-clause-ready
returns-clause-ready g c =
    ready_place c.in-Some.units c.place_static.new.self (begun c.args.self.now.units c.in-Some.units c.in-Some.is c.requires.ready).1 c.args.plan
    c.place_static.result c.place_static.ensures.works c.place_static.ensures.places
