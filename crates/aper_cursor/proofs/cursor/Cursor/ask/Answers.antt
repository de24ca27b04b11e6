use Rattle.std.proofs.Common.{ℕ, ◌≡◌, Ok, Result, refl, sym, ap, ◌∙◌}
use Rattle.std.proofs.lemmas.Result.{err_from_is_err_and}
use Rattle.aper_defs.specs.declared.reason.Reason.{Reason}
use Rattle.aper_defs.specs.Reading.{read}
use Rattle.aper_cursor.specs.Questions.{question_of}
use Rattle.aper_cursor.proofs.Judged.{read_passes, read_wrong, read_right, moved}
use Rattle.aper_cursor.proofs.cursor.Cursor.ask.Goals as goal

pub returns-in_err-number : goal.returns-in_err-number
returns-in_err-number c =
    let p = err_from_is_err_and c.from_residual.result c.from_residual.ensures.1 in
    rw (p.1, p.2) (
      read_passes (question_of c.args.question) c.args.self.now c.width_of-width.result c.in_err-number.field-0.0 c.width_of-width.ensures.width
          (c.in_err-number.ensures {u = tt}),
      refl,
    )

pub returns-in-Some : goal.returns-in-Some
returns-in-Some c =
    let looks = c.in_ok-number.ensures {u = tt} in (
      read_wrong (question_of c.args.question) c.args.self.now c.width_of-width.result c.in_ok-number.number c.in-Some.reason
          c.width_of-width.ensures.width looks.0 looks.1 (sym (c.judged.ensures c.args.self.now) ∙ c.in-Some.is),
      refl,
    )

pub returns : goal.returns
returns c =
    let looks = c.in_ok-number.ensures {u = tt} in
    let reads : read (question_of c.args.question) c.args.self.now ≡ Ok c.answer.result =
    read_right (question_of c.args.question) c.args.self.now c.width_of-width.result c.in_ok-number.number
    c.width_of-width.ensures.width looks.0 looks.1 (sym (c.judged.ensures c.args.self.now) ∙ c.in_default.is)
    ∙ ap (λ (n : ℕ). let r : Result ℕ Reason = Ok n in r) (sym (c.answer.ensures c.args.self.now)) in
    (reads, c.go.ensures ∙ moved c.args.question c.args.self.now c.width_of-width.result c.answer.result c.width_of-width.ensures.width reads)
