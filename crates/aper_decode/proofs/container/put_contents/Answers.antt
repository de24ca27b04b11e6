use Rattle.std.proofs.Common.{◌≡◌, ◌∙◌, ◌++◌, ap, [], ◌∷◌}
use Rattle.std.proofs.lemmas.Result.{err_from_is_err_and}
use Rattle.aper_defs.specs.Questions.{ask}
use Rattle.aper_defs.specs.Fields.{closing, end}
use Rattle.aper_values.specs.Views.{view}
use Rattle.aper_values.specs.types.Forms.{form_tree}
use Rattle.aper_decode.proofs.ContainerSteps.{contents_refused}
use Rattle.aper_decode.proofs.container.put_contents.Goals as goal

pub returns-in_err-put_part : goal.returns-in_err-put_part
returns-in_err-put_part c = λ of.
    let p = err_from_is_err_and c.from_residual.result c.from_residual.ensures.1 in
    let head = c.args.head.now in
    rw (p.1, p.2) (
    contents_refused (λ v ie. ie ≡ record { id = head.id; criticality = head.criticality; body = v }) (form_tree of c.args.form) c.in_err-put_part.field-0.0 c.args.cursor.now c.put_part.new.cursor
    c.args.made.now.items c.put_part.new.made.items (c.in_err-put_part.ensures {u = tt} of))

pub returns-in_err-ask_closing : goal.returns-in_err-ask_closing
returns-in_err-ask_closing c = λ of.
    let from = c.from_residual-in_err-ask_closing in
    let p = err_from_is_err_and from.result from.ensures.1 in
    let put = c.in_ok-put_part.ensures {u = tt} of in
    rw (p.1, p.2) (λ q K.
    put.read q (λ v. ask q closing (λ m. ask q end (λ z. K v)))
    ∙ c.in_err-ask_closing.ensures {u = tt} q (λ z. K (view put.value)))

pub returns : goal.returns
returns c = λ of.
    let put = c.in_ok-put_part.ensures {u = tt} of in
    record {
      value = put.value;
      read = λ q K.
          put.read q (λ v. ask q closing (λ m. ask q end (λ z. K v)))
          ∙ c.in_ok-ask_closing.ensures {u = tt} q (λ z. K (view put.value));
      put = put.put ∙ ap (λ ie. c.args.made.now.items ++ ie ∷ []) put.kept_as;
    }
