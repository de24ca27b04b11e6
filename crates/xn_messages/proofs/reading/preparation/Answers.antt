use Rattle.std.proofs.Common.{sym, subst}
use Rattle.aper_values.specs.Views.{ies_view, options_view}
use Rattle.message_defs.specs.Xn.{xn_at}
use Rattle.message_values.specs.Reading.{IsFromValue}
use Rattle.xn_messages.proofs.reading.preparation.Goals as goal

pub returns-in-0 : goal.returns-in-0
returns-in-0 c =
    subst (λ n. IsFromValue (xn_at n 1 c.args.criticality (ies_view c.args.found.now) (options_view c.args.additions.now)) c.handover_request.result) (sym c.in-0.is)
    (c.handover_request.ensures c.args.criticality)

pub returns-in-1 : goal.returns-in-1
returns-in-1 c =
    subst (λ n. IsFromValue (xn_at n 1 c.args.criticality (ies_view c.args.found.now) (options_view c.args.additions.now)) c.handover_request_acknowledge.result) (sym c.in-1.is)
    (c.handover_request_acknowledge.ensures c.args.criticality (options_view c.args.additions.now))

pub returns-in-2 : goal.returns-in-2
returns-in-2 c =
    subst (λ n. IsFromValue (xn_at n 1 c.args.criticality (ies_view c.args.found.now) (options_view c.args.additions.now)) c.handover_preparation_failure.result) (sym c.in-2.is)
    (c.handover_preparation_failure.ensures c.args.criticality (options_view c.args.additions.now))
