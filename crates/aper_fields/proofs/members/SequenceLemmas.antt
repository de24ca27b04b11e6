-- A SEQUENCE that was put.
use Rattle.std.proofs.Common.{◌≡◌, ℕ, suc, ◌==◌, not, arith, Bool, false, List, [], ◌∷◌, ◌++◌, length, Option, Some, None, refl, ap}
use Rattle.std.proofs.lemmas.Bool.Decides.{nat_tests}
use Rattle.bits_core.specs.Writing.{Written}
use Rattle.asn1_syntax.specs.declared.types.definition.Component.{Component}
use Rattle.aper_defs.specs.Trees.{Tree, sequence}
use Rattle.aper_defs.specs.Values.{components, has_options}
use Rattle.aper_defs.specs.Parts.{extension_fields}
use Rattle.aper_defs.specs.Layouts.{layout, flag_fields, mark_fields, component_fields, addition_fields}
use Rattle.aper_fields.specs.Following.{Follows}
use Rattle.aper_values.specs.types.Types.{parts_of}
use Rattle.aper_values.specs.declared.value.Value.{Value}
use Rattle.aper_values.specs.Views.{options_view}
use Rattle.aper_fields.specs.members.Followed.{ValueFollows, ComponentsFollow, AdditionsFollow}
use Rattle.aper_fields.proofs.members.HeadLemmas.{FlagsFollow}
use Rattle.aper_fields.proofs.members.Turns.{both_follow}

pub sequence_follows : (of : ℕ → Tree) (e : Bool) (parts additions : List Component) (vs more : List (Option Value)) (a b c d f g : Written)
    → Follows a b (λ p. extension_fields p e (has_options (options_view more))) → FlagsFollow b c parts vs → ComponentsFollow of c d parts vs
    → Follows d f (λ p. mark_fields p (options_view more)) → AdditionsFollow of f g additions more
    → ValueFollows a g (sequence e (parts_of of parts) (parts_of of additions)) (components (options_view vs) (options_view more))
unfolding layout
sequence_follows of e parts additions vs more a b c d f g one two three four five p rest =
    both_follow a b g (λ q. extension_fields q e (has_options (options_view more)))
    (λ q. flag_fields q (parts_of of parts) (options_view vs) ++ (component_fields q (parts_of of parts) (options_view vs)
    ++ (mark_fields q (options_view more) ++ addition_fields q (parts_of of additions) (options_view more)))) one
    (both_follow b c g (λ q. flag_fields q (parts_of of parts) (options_view vs))
    (λ q. component_fields q (parts_of of parts) (options_view vs) ++ (mark_fields q (options_view more)
    ++ addition_fields q (parts_of of additions) (options_view more))) (two of)
    (both_follow c d g (λ q. component_fields q (parts_of of parts) (options_view vs))
    (λ q. mark_fields q (options_view more) ++ addition_fields q (parts_of of additions) (options_view more)) three
    (both_follow d f g (λ q. mark_fields q (options_view more)) (λ q. addition_fields q (parts_of of additions) (options_view more)) four five)))
    p rest

different : (n : ℕ) → (suc n == 0) ≡ false
different n = grind (arith, nat_tests)

-- whether there are additions, as the code asks it
pub has_any : (more : List (Option Value)) → not (length more == 0) ≡ has_options (options_view more)
has_any [] = refl
has_any (None ∷ vs) = ap not (different (length vs))
has_any (Some v ∷ vs) = ap not (different (length vs))
