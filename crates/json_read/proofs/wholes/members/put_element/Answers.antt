use Rattle.std.proofs.Common.{◌≡◌, List, [], ◌∷◌, ◌++◌, map, Result, Err, sym, ap, subst, ◌∙◌}
use Rattle.std.proofs.lemmas.Result.{err_from_is_err_and}
use Rattle.aper_defs.specs.Fields as ways
use Rattle.aper_values.specs.declared.value.Element.{Element}
use Rattle.aper_values.specs.Views.{element_view, view}
use Rattle.aper_defs.specs.Fields.{Path}
use Rattle.aper_defs.specs.Values.{Value as SeenValue}
use Rattle.aper_values.specs.declared.value.Value.{Value}
use Rattle.json_defs.specs.Demands.{Demand}
use Rattle.json_fields.specs.declared.simple.refusal.Refusal.{Refusal}
use Rattle.json_fields.specs.simple.Answers.{Tells, Reads}
use Rattle.json_read.specs.wholes.Reads.{ReadsAs, element_of}
use Rattle.json_read.proofs.wholes.Puts.{mapped}
use Rattle.json_read.proofs.wholes.members.put_element.Goals as goal

pub returns-in_err-body : goal.returns-in_err-body
returns-in_err-body c =
    λ of v h. let p = err_from_is_err_and c.from_residual.result c.from_residual.ensures.1 in
    rw (p.1, p.2) (c.in_err-body.ensures of v h)

pub returns : goal.returns
returns c =
    λ of v h. let k = c.in_ok-body.ensures of v h in
    let made : SeenValue → Element SeenValue = λ w. element_of c.args.head w in (
      k.0,
      ap (λ (xs : List (Element Value)). map element_view xs) c.in_ok-push.ensures.items
          ∙ mapped element_view c.args.ies.now.items _ (made v) (ap made k.1),
    )
