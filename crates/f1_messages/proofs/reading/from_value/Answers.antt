use Rattle.std.proofs.Common.{◌≡◌, [], sym, subst, rules}
use Rattle.aper_defs.specs.Values.{message}
use Rattle.aper_defs.specs.Membership.{Has}
use Rattle.aper_values.specs.declared.value.Value.{the_lemmas}
use Rattle.aper_values.specs.Views.{view}
use Rattle.message_defs.specs.profile_defs.Profile.{f1_type}
use Rattle.message_values.specs.Fitting.{AreFitting}
use Rattle.f1_messages.proofs.Fits.{fits}
use Rattle.f1_messages.proofs.reading.from_value.Goals as goal

pub from_value_at-requires : goal.from_value_at-requires
from_value_at-requires c =
    let seen : view c.args.value.now ≡ message c.in-Pdu.outcome c.in-Pdu.code c.in-Pdu.criticality (view c.in-Pdu.body.value) =
    rw c.in-Pdu.is (search (rules, the_lemmas)) in
    let same : c.in-Pdu.body.value ≡ c.deref.result.now = cc in
    let has : Has [] f1_type (message c.in-Pdu.outcome c.in-Pdu.code c.in-Pdu.criticality (view c.deref.result.now)) =
    subst (λ w. Has [] f1_type (message c.in-Pdu.outcome c.in-Pdu.code c.in-Pdu.criticality (view w))) same
    (subst (λ v. Has [] f1_type v) seen c.requires) in
    subst (λ ies. AreFitting ies) (sym c.elements_in.ensures)
    (fits c.in-Pdu.outcome c.in-Pdu.code c.in-Pdu.criticality (view c.deref.result.now) has)
