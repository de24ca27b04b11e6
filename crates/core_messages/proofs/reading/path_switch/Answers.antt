use Rattle.std.proofs.Common.{sym, subst}
use Rattle.aper_values.specs.Views.{ies_view}
use Rattle.message_defs.specs.Core.{core_at}
use Rattle.message_values.specs.Reading.{IsFromValue}
use Rattle.core_messages.proofs.reading.path_switch.Goals as goal

pub returns-in-0 : goal.returns-in-0
returns-in-0 c =
    subst (λ n. IsFromValue (core_at n 1 c.args.criticality (ies_view c.args.found.now)) c.path_switch_request.result) (sym c.in-0.is)
    (c.path_switch_request.ensures c.args.criticality)

pub returns-in-1 : goal.returns-in-1
returns-in-1 c =
    subst (λ n. IsFromValue (core_at n 1 c.args.criticality (ies_view c.args.found.now)) c.path_switch_acknowledge.result) (sym c.in-1.is)
    (c.path_switch_acknowledge.ensures c.args.criticality)
