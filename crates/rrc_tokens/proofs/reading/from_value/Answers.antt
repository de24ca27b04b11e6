use Rattle.std.proofs.Common.{◌≡◌, [], subst, rules}
use Rattle.aper_defs.specs.Values.{chosen}
use Rattle.aper_defs.specs.Membership.{Has}
use Rattle.aper_values.specs.declared.value.Value.{the_lemmas}
use Rattle.aper_values.specs.Views.{view}
use Rattle.message_defs.specs.profile_defs.Profile.{token_type}
use Rattle.rrc_tokens.proofs.Fits.{fits}
use Rattle.rrc_tokens.proofs.reading.from_value.Goals as goal

pub from_value_at-requires : goal.from_value_at-requires
from_value_at-requires c =
    let seen : view c.args.value.now ≡ chosen c.in-Choice.alternative (view c.in-Choice.body.value) =
    rw c.in-Choice.is (search (rules, the_lemmas)) in
    let same : c.in-Choice.body.value ≡ c.deref.result.now = cc in
    let has : Has [] token_type (chosen c.in-Choice.alternative (view c.deref.result.now)) =
    subst (λ w. Has [] token_type (chosen c.in-Choice.alternative (view w))) same (subst (λ v. Has [] token_type v) seen c.requires) in
    fits c.in-Choice.alternative (view c.deref.result.now) has
