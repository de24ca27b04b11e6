use Rattle.std.proofs.Common.{sym, subst}
use Rattle.aper_values.specs.Views.{ies_view}
use Rattle.message_defs.specs.F1.{f1_at}
use Rattle.message_values.specs.Reading.{IsFromValue}
use Rattle.f1_messages.proofs.reading.release.Goals as goal

pub returns-in-0 : goal.returns-in-0
returns-in-0 c =
    subst (λ n. IsFromValue (f1_at n 4 c.args.criticality (ies_view c.args.found.now)) c.release_command.result) (sym c.in-0.is)
    (c.release_command.ensures c.args.criticality)

pub returns-in-1 : goal.returns-in-1
returns-in-1 c =
    subst (λ n. IsFromValue (f1_at n 4 c.args.criticality (ies_view c.args.found.now)) c.release_complete.result) (sym c.in-1.is)
    (c.release_complete.ensures c.args.criticality)
