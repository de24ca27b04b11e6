use Rattle.std.proofs.Common.{sym, subst}
use Rattle.aper_values.specs.Views.{ies_view}
use Rattle.message_defs.specs.Xn.{xn_at}
use Rattle.message_values.specs.Reading.{IsFromValue}
use Rattle.xn_messages.proofs.reading.confirm.Goals as goal

pub returns-in-0 : goal.returns-in-0
returns-in-0 c = λ more.
    subst (λ n. IsFromValue (xn_at n 5 c.args.criticality (ies_view c.args.found.now) more) c.transport_confirm.result) (sym c.in-0.is)
    (c.transport_confirm.ensures c.args.criticality more)
