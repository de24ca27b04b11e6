use Rattle.std.proofs.Common.{sym, subst}
use Rattle.aper_values.specs.Views.{ies_view}
use Rattle.message_defs.specs.Xn.{xn_at}
use Rattle.message_values.specs.Reading.{IsFromValue}
use Rattle.xn_messages.proofs.reading.release.Goals as goal

pub returns-in-0 : goal.returns-in-0
returns-in-0 c = λ more.
    subst (λ n. IsFromValue (xn_at n 4 c.args.criticality (ies_view c.args.found.now) more) c.context_release.result) (sym c.in-0.is)
    (c.context_release.ensures c.args.criticality more)
