use Rattle.std.proofs.Common.{ℕ, List, Option, Bor, sym, ap, ◌∙◌}
use Rattle.std.specs.Prelude.{option_map}
use Rattle.asn1_defs.specs.Targets.{type_ids}
use Rattle.message_defs.specs.profile_defs.Profile.{profile_types}
use Rattle.message_defs.specs.profile_defs.Agreement.{or_else}
use Rattle.profile.specs.profile_module.inside.Same.{own_names, first_other, first_new}
use Rattle.profile.proofs.profile_module.Differing.{differs_so}
use Rattle.profile.proofs.profile_module.TypeNames.{type_names, shallow}
use Rattle.profile.proofs.profile_module.agreement.differing.Goals as goal

pub returns-in-Some : goal.returns-in-Some
returns-in-Some c =
    let p = c.args.profile.now in
    let m = c.args.module.now in
    let found = ap (λ (o : Option (Bor (List ℕ))). option_map (λ name. name.now) o) (sym c.in-Some.is) ∙ c.first_other.ensures
    ∙ ap (λ (names : List (List ℕ)). first_other p m names) c.type_names-names.ensures in
    ap (λ (o : Option (List ℕ)). or_else o (first_new own_names m.assignments (type_ids m.assignments))) found
    ∙ differs_so p m (profile_types 1) own_names shallow type_names c.requires c.name.ensures.sound

pub returns-in-None : goal.returns-in-None
returns-in-None c =
    let p = c.args.profile.now in
    let m = c.args.module.now in
    let found = ap (λ (o : Option (Bor (List ℕ))). option_map (λ name. name.now) o) (sym c.in-None.is) ∙ c.first_other.ensures
    ∙ ap (λ (names : List (List ℕ)). first_other p m names) c.type_names-names.ensures in
    c.first_new.ensures
    ∙ ap (λ (names : List (List ℕ)). first_new names m.assignments (type_ids m.assignments)) c.type_names-names.ensures
    ∙ ap (λ (o : Option (List ℕ)). or_else o (first_new own_names m.assignments (type_ids m.assignments))) found
    ∙ differs_so p m (profile_types 1) own_names shallow type_names c.requires c.name.ensures.sound
