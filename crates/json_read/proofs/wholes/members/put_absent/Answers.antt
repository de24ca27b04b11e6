use Rattle.std.proofs.Common.{◌≡◌, List, ℕ, [], ◌∷◌, map, Option, None, option_map, refl, ap, subst, ◌∙◌}
use Rattle.aper_defs.specs.Fields as ways
use Rattle.aper_values.specs.declared.value.Value.{Value}
use Rattle.aper_values.specs.Views.{view}
use Rattle.json_defs.specs.declared.fault.JsonFault.TheVariants.{Shape}
use Rattle.json_defs.specs.Demands.{shape}
use Rattle.json_fields.specs.simple.Answers.{Tells}
use Rattle.json_read.proofs.wholes.Demanded.{one_none}
use Rattle.json_read.proofs.wholes.Puts.{mapped}
use Rattle.json_read.proofs.wholes.Passed.{here_told}
use Rattle.json_read.proofs.wholes.members.put_absent.Goals as goal

pub returns-then-not-part : goal.returns-then-not-part
returns-then-not-part c =
    subst (λ (n : List ℕ). Tells (λ p. shape (ways.component n ∷ p) c.args.part.now.optional ∷ []) c.under.result) c.as_slice.ensures
    (c.under.ensures (λ p. shape p c.args.part.now.optional ∷ [])
    (here_told Shape c.shape.result (λ p. c.args.part.now.optional) c.shape.ensures (λ p. c.if-not-part.true)))

pub returns : goal.returns
returns c = (
  λ p. one_none (ways.component c.args.part.now.name ∷ p) Shape c.args.part.now.optional c.if-not-part.false,
  ap (λ (xs : List (Option Value)). map (option_map view) xs) c.in_ok-push.ensures.items
      ∙ mapped (option_map view) c.args.values.now.items None None refl,
)
