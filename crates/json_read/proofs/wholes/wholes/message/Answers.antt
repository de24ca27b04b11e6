use Rattle.std.proofs.Common.{rules, ◌≡◌, Result, Err, sym, ap, subst, ◌∙◌}
use Rattle.std.proofs.lemmas.Result.{err_from_is_err_and}
use Rattle.aper_defs.specs.Values.{message, Value as SeenValue}
use Rattle.aper_defs.specs.Fields.{Path}
use Rattle.aper_values.specs.declared.value.Value.{Value, the_lemmas}
use Rattle.aper_values.specs.declared.value.Value.TheVariants as values
use Rattle.aper_values.specs.Views.{view}
use Rattle.json_defs.specs.Demands.{Demand}
use Rattle.json_fields.specs.declared.simple.refusal.Refusal.{Refusal}
use Rattle.json_fields.specs.simple.Answers.{Tells, Reads}
use Rattle.json_read.specs.wholes.Reads.{ReadsAs}
use Rattle.json_read.proofs.wholes.wholes.message.Goals as goal

pub returns-in_err-inside : goal.returns-in_err-inside
returns-in_err-inside c =
    λ of v h. let p = err_from_is_err_and c.from_residual.result c.from_residual.ensures.1 in
    rw (p.1, p.2) (c.in_err-inside.ensures of v h)

pub returns : goal.returns
returns c =
    λ of v h. let k = c.in_ok-inside.ensures of v h in
    let made : SeenValue → SeenValue = λ w. message c.args.outcome c.args.head.code c.args.head.criticality w in
    let is : view (values.Pdu c.args.outcome c.args.head.code c.args.head.criticality c.in_ok-body.body) ≡ made (view c.in_ok-body.body.value) =
    search (rules, the_lemmas) in
    (k.0, is ∙ ap (λ (x : Value). made (view x)) c.in_ok-body.ensures.ok ∙ ap made k.1)
