use Rattle.std.proofs.Common.{sym, subst}
use Rattle.aper_values.specs.Views.{ies_view}
use Rattle.message_defs.specs.E1.{e1_at}
use Rattle.message_values.specs.Reading.{IsFromValue}
use Rattle.e1_messages.proofs.reading.from_value_at.Goals as goal

pub returns-in-1 : goal.returns-in-1
returns-in-1 c =
    subst (λ n. IsFromValue (e1_at c.args.outcome n c.args.criticality (ies_view c.args.found.now)) c.setup.result)
    (sym c.in-1.is) c.setup.ensures

pub returns-in-2 : goal.returns-in-2
returns-in-2 c =
    subst (λ n. IsFromValue (e1_at c.args.outcome n c.args.criticality (ies_view c.args.found.now)) c.context_setup.result)
    (sym c.in-2.is) c.context_setup.ensures

pub returns-in-3 : goal.returns-in-3
returns-in-3 c =
    subst (λ n. IsFromValue (e1_at c.args.outcome n c.args.criticality (ies_view c.args.found.now)) c.modification.result)
    (sym c.in-3.is) c.modification.ensures

pub returns-in-4 : goal.returns-in-4
returns-in-4 c =
    subst (λ n. IsFromValue (e1_at c.args.outcome n c.args.criticality (ies_view c.args.found.now)) c.release.result)
    (sym c.in-4.is) c.release.ensures
