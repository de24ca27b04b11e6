-- The components of a value of RrcToken fit the fields that code has for them.
use Rattle.std.proofs.Common.{◌≡◌, ℕ, zero, suc, ◌-◌, ◌∷◌, [], Bool, true, false, arith}
use Rattle.std.specs.Prelude.{codes, nat_lt}
use Rattle.aper_defs.specs.Trees.{no_parts}
use Rattle.aper_defs.specs.Values.{Value, components, chosen, raw, no_options, absent, present}
use Rattle.aper_defs.specs.Fields.{Path}
use Rattle.aper_defs.specs.Fields as fields
use Rattle.aper_defs.specs.Membership.{Has, HasComponents, HasAlternative, HasAdded, Either, IsRaw}
use Rattle.proof_aper.proofs.answers.NumberFacts.{by_cases}
use Rattle.message_defs.specs.profile_defs.Forms.{Components, component, no_components, tree, parts}
use Rattle.message_defs.specs.profile_defs.Profile.{token_type}
use Rattle.message_defs.specs.profile_defs.Tokens as forms
use Rattle.message_defs.specs.Tokens.{components_in}
use Rattle.message_values.proofs.Fits.{ue_one, epoch_one, du_one}
use Rattle.rrc_tokens.specs.Fitting.{AreFittingParts}

differ : (let b : Bool = false in b) ≡ true → ⊥
differ h = cc

module _ (p : Path) where
  mark_fits : (v : Value) → Has p (tree forms.mark) v → AreFittingParts (components_in v)
  unfolding tree parts Has HasComponents
  mark_fits (components (present u (present e no_options)) more) h = record {
    ue = (ue_one (fields.component (codes "ue") ∷ p) u h.0.0).number;
    epoch = (epoch_one (fields.component (codes "epoch") ∷ p) e h.0.1.0).number;
    du = omega arith;
  }
  mark_fits (components no_options more) h = absurd h.0
  mark_fits (components (absent vs) more) h = absurd (differ h.0.0)
  mark_fits (components (present u no_options) more) h = absurd h.0.1
  mark_fits (components (present u (absent vs)) more) h = absurd (differ h.0.1.0)
  mark_fits (components (present u (present e (absent vs))) more) h = absurd h.0.1.1
  mark_fits (components (present u (present e (present v vs))) more) h = absurd h.0.1.1
  mark_fits v h = absurd h

  command_fits : (v : Value) → Has p (tree forms.command) v → AreFittingParts (components_in v)
  unfolding tree parts Has HasComponents
  command_fits (components (present u (present e (present g (present d vs)))) more) h = record {
    ue = (ue_one (fields.component (codes "ue") ∷ p) u h.0.0).number;
    epoch = (epoch_one (fields.component (codes "epoch") ∷ p) e h.0.1.0).number;
    du = (du_one (fields.component (codes "du") ∷ p) d h.0.1.1.1.0).number;
  }
  command_fits (components no_options more) h = absurd h.0
  command_fits (components (absent vs) more) h = absurd (differ h.0.0)
  command_fits (components (present u no_options) more) h = absurd h.0.1
  command_fits (components (present u (absent vs)) more) h = absurd (differ h.0.1.0)
  command_fits (components (present u (present e no_options)) more) h = absurd h.0.1.1
  command_fits (components (present u (present e (absent vs))) more) h = absurd (differ h.0.1.1.0)
  command_fits (components (present u (present e (present g no_options))) more) h = absurd h.0.1.1.1
  command_fits (components (present u (present e (present g (absent vs)))) more) h = absurd (differ h.0.1.1.1.0)
  command_fits v h = absurd h

abbrev alternatives : Components
alternatives =
    component (codes "command") false forms.command
    (component (codes "complete") false forms.mark
    (component (codes "reestablish") false forms.mark
    (component (codes "accepted") false forms.mark
    no_components)))

alternative_fits : (i : ℕ) (v : Value) → HasAlternative [] (parts alternatives) i v → AreFittingParts (components_in v)
unfolding parts HasAlternative
alternative_fits zero v h = command_fits (fields.component (codes "command") ∷ []) v h
alternative_fits (suc zero) v h = mark_fits (fields.component (codes "complete") ∷ []) v h
alternative_fits (suc (suc zero)) v h = mark_fits (fields.component (codes "reestablish") ∷ []) v h
alternative_fits (suc (suc (suc zero))) v h = mark_fits (fields.component (codes "accepted") ∷ []) v h
alternative_fits (suc (suc (suc (suc i)))) v h = absurd h

unknown_fits : (v : Value) → IsRaw v → AreFittingParts (components_in v)
unknown_fits (raw os) h = record { ue = omega arith; epoch = omega arith; du = omega arith }
unknown_fits v h = absurd h

pub fits : (i : ℕ) (body : Value) → Has [] token_type (chosen i body) → AreFittingParts (components_in body)
unfolding token_type tree parts Has HasAdded
fits i body h =
    by_cases (nat_lt i 4)
    (λ b. Either b (HasAlternative [] (parts alternatives) i body) (HasAdded [] no_parts (i - 4) body) → AreFittingParts (components_in body))
    (λ _ g. alternative_fits i body g)
    (λ _ g. unknown_fits body g) h.1
