use Rattle.std.proofs.Common.{◌∷◌, Result, Ok, subst}
use Rattle.aper_frames.specs.Paths.{step_view}
use Rattle.aper_defs.specs.Fields.{Path}
use Rattle.aper_defs.specs.Values.{Value as SeenValue}
use Rattle.aper_values.specs.declared.value.Value.{Value}
use Rattle.aper_values.specs.Views.{view}
use Rattle.json_defs.specs.Demands.{Demand}
use Rattle.json_fields.specs.declared.simple.refusal.Refusal.{Refusal}
use Rattle.json_read.specs.wholes.Reads.{ReadsAs}
use Rattle.json_read.proofs.wholes.contents.inside.Goals as goal

pub returns-in-Ok : goal.returns-in-Ok
returns-in-Ok c =
    λ of v h. let k : ReadsAs of v (Ok c.in-Ok.value) = subst (λ (r : Result Value Refusal). ReadsAs of v r) c.in-Ok.is h in
    ((λ p. k.0 (step_view c.args.step ∷ p)), k.1)

pub returns-in-Err : goal.returns-in-Err
returns-in-Err c = λ of v h. c.under.ensures of (subst (λ (r : Result Value Refusal). ReadsAs of v r) c.in-Err.is h)
