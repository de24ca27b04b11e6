use Rattle.std.proofs.Common.{sym, subst}
use Rattle.aper_values.specs.Views.{ies_view}
use Rattle.message_defs.specs.E1.{e1_at}
use Rattle.message_values.specs.Reading.{IsFromValue}
use Rattle.e1_messages.proofs.reading.modification.Goals as goal

pub returns-in-0 : goal.returns-in-0
returns-in-0 c =
    subst (λ n. IsFromValue (e1_at n 3 c.args.criticality (ies_view c.args.found.now)) c.modification_request.result) (sym c.in-0.is)
    (c.modification_request.ensures c.args.criticality)

pub returns-in-1 : goal.returns-in-1
returns-in-1 c =
    subst (λ n. IsFromValue (e1_at n 3 c.args.criticality (ies_view c.args.found.now)) c.modification_response.result) (sym c.in-1.is)
    (c.modification_response.ensures c.args.criticality)

pub returns-in-2 : goal.returns-in-2
returns-in-2 c =
    subst (λ n. IsFromValue (e1_at n 3 c.args.criticality (ies_view c.args.found.now)) c.modification_failure.result) (sym c.in-2.is)
    (c.modification_failure.ensures c.args.criticality)
