use Rattle.std.proofs.Common.{sym, subst}
use Rattle.aper_values.specs.Views.{ies_view}
use Rattle.message_defs.specs.F1.{f1_at}
use Rattle.message_values.specs.Reading.{IsFromValue}
use Rattle.f1_messages.proofs.reading.uplink.Goals as goal

pub returns-in-0 : goal.returns-in-0
returns-in-0 c =
    subst (λ n. IsFromValue (f1_at n 6 c.args.criticality (ies_view c.args.found.now)) c.uplink_transfer.result) (sym c.in-0.is)
    (c.uplink_transfer.ensures c.args.criticality)
