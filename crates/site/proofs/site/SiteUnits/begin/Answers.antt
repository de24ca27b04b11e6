use Rattle.std.proofs.Common.{Option, sym, subst}
use Rattle.site.specs.declared.unit_set.UnitSet.{UnitSet}
use Rattle.site.specs.Sites.{AreReady}
use Rattle.site.proofs.Ready.{ready_first}
use Rattle.site.proofs.site.SiteUnits.begin.Goals as goal

pub returns-clause-ready : goal.returns-clause-ready
returns-clause-ready g c =
    subst (λ (o : Option UnitSet). AreReady o) (sym c.replace.ensures.after)
    (ready_first c.in_ok-units.units c.in_ok-units.ensures.records c.in_ok-units.ensures.works)
