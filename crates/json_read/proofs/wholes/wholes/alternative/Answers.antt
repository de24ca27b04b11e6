use Rattle.std.proofs.Common.{rules, ◌≡◌, Result, Err, sym, ap, subst, ◌∙◌}
use Rattle.std.proofs.lemmas.Result.{err_from_is_err_and}
use Rattle.aper_defs.specs.Values.{chosen, Value as SeenValue}
use Rattle.aper_defs.specs.Fields.{Path}
use Rattle.aper_values.specs.declared.value.Value.{Value, the_lemmas}
use Rattle.aper_values.specs.declared.value.Value.TheVariants as values
use Rattle.aper_values.specs.Views.{view}
use Rattle.json_defs.specs.Demands.{Demand}
use Rattle.json_fields.specs.declared.simple.refusal.Refusal.{Refusal}
use Rattle.json_fields.specs.simple.Answers.{Tells, Reads}
use Rattle.json_read.specs.wholes.Reads.{ReadsAs}
use Rattle.json_read.proofs.wholes.Passed.{was_read, was_told}
use Rattle.json_read.proofs.wholes.wholes.alternative.Goals as goal

pub returns-in_err-asked : goal.returns-in_err-asked
returns-in_err-asked c =
    λ of v h. let p = err_from_is_err_and c.from_residual.result c.from_residual.ensures.1 in
    rw (p.1, p.2) (was_told of v c.args.asked h c.in_err-asked.field-0.0 c.in_err-asked.was)

pub returns : goal.returns
returns c =
    λ of v h. let k = was_read of v c.args.asked h c.in_ok-asked.field-0 c.in_ok-asked.was in
    let is : view (values.Choice c.args.index c.in_ok-new.field-0) ≡ chosen c.args.index (view c.in_ok-new.field-0.value) = search (rules, the_lemmas) in
    (k.0, is ∙ ap (λ (x : Value). chosen c.args.index (view x)) c.in_ok-new.ensures.ok ∙ ap (chosen c.args.index) k.1)
