use Rattle.std.proofs.Common.{◌≡◌, List, [], ◌∷◌, ◌++◌, map, Result, Err, sym, ap, subst, ◌∙◌}
use Rattle.std.proofs.lemmas.Result.{err_from_is_err_and}
use Rattle.aper_defs.specs.Fields.{Path}
use Rattle.aper_defs.specs.Values.{Value as SeenValue}
use Rattle.aper_values.specs.declared.value.Value.{Value}
use Rattle.aper_values.specs.Views.{view}
use Rattle.json_defs.specs.Demands.{Demand}
use Rattle.json_fields.specs.declared.simple.refusal.Refusal.{Refusal}
use Rattle.json_fields.specs.simple.Answers.{Tells, Reads}
use Rattle.json_read.specs.wholes.Reads.{ReadsAs}
use Rattle.json_read.proofs.wholes.Puts.{mapped}
use Rattle.json_read.proofs.wholes.Passed.{was_read, was_told}
use Rattle.json_read.proofs.wholes.members.put_member.Goals as goal

pub returns-in_err-asked : goal.returns-in_err-asked
returns-in_err-asked c =
    λ of v h. let p = err_from_is_err_and c.from_residual.result c.from_residual.ensures.1 in
    rw (p.1, p.2) (was_told of v c.args.asked h c.in_err-asked.field-0.0 c.in_err-asked.was)

pub returns : goal.returns
returns c =
    λ of v h. let k = was_read of v c.args.asked h c.in_ok-asked.field-0 c.in_ok-asked.was in
    (k.0, ap (λ (xs : List Value). map view xs) c.in_ok-push.ensures.items ∙ mapped view c.args.values.now.items c.in_ok-asked.field-0 v k.1)
