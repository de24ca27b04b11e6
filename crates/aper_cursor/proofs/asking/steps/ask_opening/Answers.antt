use Rattle.std.proofs.Common.{◌∙◌}
use Rattle.std.proofs.lemmas.Result.{err_from_is_err_and}
use Rattle.aper_defs.specs.Fields.{opening}
use Rattle.aper_defs.specs.Questions.{ask}
use Rattle.aper_cursor.proofs.asking.Onward.{asked_on, opening_refused}
use Rattle.aper_cursor.proofs.asking.steps.ask_opening.Goals as goal

pub returns-in_err-length : goal.returns-in_err-length
returns-in_err-length c =
    let p = err_from_is_err_and c.from_residual-in_err-length.result c.from_residual-in_err-length.ensures.1 in
    rw (p.1, p.2) (
    opening_refused c.args.cursor.now c.ask_one.new.cursor c.opening.new.self c.in_ok-ask_one.field-0 c.in_err-length.field-0.0
    (c.in_ok-ask_one.ensures {u = tt}).asked (c.in_err-length.ensures {u = tt})
    )

pub returns : goal.returns
returns c =
    let right = c.in_ok-length.ensures {u = tt} in
    λ way K. (c.in_ok-ask_one.ensures {u = tt}).asked way (λ y. ask way opening K)
    ∙ asked_on opening c.ask_one.new.cursor c.opening.new.self c.in_ok-length.length right.0 right.1 way K
