use Rattle.std.proofs.Common.{sym, subst}
use Rattle.aper_values.specs.Views.{ies_view}
use Rattle.message_defs.specs.F1.{f1_at}
use Rattle.message_values.specs.Reading.{IsFromValue}
use Rattle.f1_messages.proofs.reading.context_setup.Goals as goal

pub returns-in-0 : goal.returns-in-0
returns-in-0 c =
    subst (λ n. IsFromValue (f1_at n 2 c.args.criticality (ies_view c.args.found.now)) c.context_setup_request.result) (sym c.in-0.is)
    (c.context_setup_request.ensures c.args.criticality)

pub returns-in-1 : goal.returns-in-1
returns-in-1 c =
    subst (λ n. IsFromValue (f1_at n 2 c.args.criticality (ies_view c.args.found.now)) c.context_setup_response.result) (sym c.in-1.is)
    (c.context_setup_response.ensures c.args.criticality)
