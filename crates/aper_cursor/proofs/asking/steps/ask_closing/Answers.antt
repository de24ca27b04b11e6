use Rattle.std.proofs.Common.{◌∙◌}
use Rattle.std.proofs.lemmas.Result.{err_from_is_err_and}
use Rattle.aper_defs.specs.Fields.{closing, end}
use Rattle.aper_defs.specs.Questions.{ask}
use Rattle.aper_cursor.proofs.asking.Onward.{asked_on, asked_wrong}
use Rattle.aper_cursor.proofs.asking.steps.ask_closing.Goals as goal

pub returns-in_err-closing : goal.returns-in_err-closing
returns-in_err-closing c =
    let p = err_from_is_err_and c.from_residual.result c.from_residual.ensures.1 in
    let wrong = c.in_err-closing.ensures {u = tt} in
    rw (p.1, p.2) (λ way K. asked_wrong closing c.args.cursor.now c.closing.new.self c.in_err-closing.field-0.0 wrong.0 wrong.1 way (λ m. ask way end (λ z. K tt)))

pub returns-in_err-end : goal.returns-in_err-end
returns-in_err-end c =
    let p = err_from_is_err_and c.from_residual-in_err-end.result c.from_residual-in_err-end.ensures.1 in
    let right = c.in_ok-closing.ensures {u = tt} in
    let wrong = c.in_err-end.ensures {u = tt} in
    rw (p.1, p.2) (
    λ way K. asked_on closing c.args.cursor.now c.closing.new.self c.in_ok-closing.field-0 right.0 right.1 way (λ m. ask way end (λ z. K tt))
    ∙ asked_wrong end c.closing.new.self c.end.new.self c.in_err-end.field-0.0 wrong.0 wrong.1 way (λ z. K tt)
    )

pub returns : goal.returns
returns c =
    let first = c.in_ok-closing.ensures {u = tt} in
    let second = c.in_ok-end.ensures {u = tt} in
    λ way K. asked_on closing c.args.cursor.now c.closing.new.self c.in_ok-closing.field-0 first.0 first.1 way (λ m. ask way end (λ z. K tt))
    ∙ asked_on end c.closing.new.self c.end.new.self c.in_ok-end.field-0 second.0 second.1 way (λ z. K tt)
