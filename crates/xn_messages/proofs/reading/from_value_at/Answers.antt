use Rattle.std.proofs.Common.{sym, subst}
use Rattle.aper_values.specs.Views.{ies_view, options_view}
use Rattle.message_defs.specs.Xn.{xn_at}
use Rattle.message_values.specs.Reading.{IsFromValue}
use Rattle.xn_messages.proofs.reading.from_value_at.Goals as goal

pub returns-in-1 : goal.returns-in-1
returns-in-1 c =
    subst (λ n. IsFromValue (xn_at c.args.outcome n c.args.criticality (ies_view c.args.found.now) (options_view c.args.additions.now)) c.preparation.result)
    (sym c.in-1.is) c.preparation.ensures

pub returns-in-2 : goal.returns-in-2
returns-in-2 c =
    subst (λ n. IsFromValue (xn_at c.args.outcome n c.args.criticality (ies_view c.args.found.now) (options_view c.args.additions.now)) c.sn_status.result)
    (sym c.in-2.is) (c.sn_status.ensures (options_view c.args.additions.now))

pub returns-in-3 : goal.returns-in-3
returns-in-3 c =
    subst (λ n. IsFromValue (xn_at c.args.outcome n c.args.criticality (ies_view c.args.found.now) (options_view c.args.additions.now)) c.cancel.result)
    (sym c.in-3.is) (c.cancel.ensures (options_view c.args.additions.now))

pub returns-in-4 : goal.returns-in-4
returns-in-4 c =
    subst (λ n. IsFromValue (xn_at c.args.outcome n c.args.criticality (ies_view c.args.found.now) (options_view c.args.additions.now)) c.release.result)
    (sym c.in-4.is) (c.release.ensures (options_view c.args.additions.now))

pub returns-in-5 : goal.returns-in-5
returns-in-5 c =
    subst (λ n. IsFromValue (xn_at c.args.outcome n c.args.criticality (ies_view c.args.found.now) (options_view c.args.additions.now)) c.confirm.result)
    (sym c.in-5.is) (c.confirm.ensures (options_view c.args.additions.now))
