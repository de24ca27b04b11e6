use Rattle.std.proofs.Common.{◌∙◌}
use Rattle.std.proofs.lemmas.Result.{err_from_is_err_and}
use Rattle.aper_defs.specs.Questions.{ask}
use Rattle.aper_defs.specs.Fields.{closing, end}
use Rattle.aper_defs.specs.Asking.{asks}
use Rattle.aper_values.specs.types.Forms.{form_tree}
use Rattle.aper_decode.proofs.ContainerSteps.{open_refused}
use Rattle.aper_decode.proofs.container.put_open.Goals as goal

pub returns-in_err-put_contents-in-Ok : goal.returns-in_err-put_contents-in-Ok
returns-in_err-put_contents-in-Ok c = λ of.
    let p = err_from_is_err_and c.from_residual.result c.from_residual.ensures.1 in
    rw (p.1, p.2) (
    open_refused (form_tree of c.args.form) c.in_err-put_contents-in-Ok.field-0.0 c.args.cursor.now c.ask_opening.new.cursor
    c.put_contents.new.cursor c.in-Ok.field-0 c.in-Ok.ensures (c.in_err-put_contents-in-Ok.ensures {u = tt} of))

pub returns-in_ok-put_contents-in-Ok : goal.returns-in_ok-put_contents-in-Ok
returns-in_ok-put_contents-in-Ok c = λ of.
    let element = c.in_ok-put_contents-in-Ok.ensures {u = tt} of in
    record {
      value = element.value;
      read = λ p inside K.
          c.in-Ok.ensures p (λ n. asks inside (form_tree of c.args.form) (λ v. ask inside closing (λ m. ask inside end (λ z. K v))))
          ∙ element.read inside K;
      put = element.put;
    }
