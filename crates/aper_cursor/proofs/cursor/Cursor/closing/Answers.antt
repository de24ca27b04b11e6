use Rattle.std.proofs.Common.{ℕ, Bool, true, false, cond, ◌≡◌, ◌==◌, Ok, Result, refl, sym, ap, ◌∙◌}
use Rattle.std.proofs.lemmas.Result.{err_from_is_err_and}
use mir.Val.{bool_byte}
use Rattle.aper_defs.specs.declared.reason.Reason.{Reason}
use Rattle.aper_defs.specs.declared.reason.Reason.TheVariants.{Padding}
use Rattle.aper_defs.specs.Fields.{closing}
use Rattle.aper_defs.specs.Reading.{read, start_of}
use Rattle.aper_cursor.proofs.Judged.{read_passes, read_wrong, read_right, moved_at, pad_wrong, pad_right}
use Rattle.aper_cursor.proofs.cursor.Cursor.closing.Goals as goal

pub returns-in_err-number : goal.returns-in_err-number
returns-in_err-number c =
    let p = err_from_is_err_and c.from_residual.result c.from_residual.ensures.1 in
    rw (p.1, p.2) (
      read_passes closing c.args.self.now c.closing_width-width.result c.in_err-number.field-0.0 c.closing_width-width.ensures.width
          (c.in_err-number.ensures {u = tt}),
      refl,
    )

pub returns-then-number-ne0 : goal.returns-then-number-ne0
returns-then-number-ne0 c =
    let looks = c.in_ok-number.ensures {u = tt} in (
      read_wrong closing c.args.self.now c.closing_width-width.result c.in_ok-number.number Padding c.closing_width-width.ensures.width looks.0 looks.1
          (pad_wrong c.in_ok-number.number c.if-number-ne0.true),
      refl,
    )

byte : (b : Bool) → cond b 1 0 ≡ bool_byte b
byte true = refl
byte false = refl

pub returns : goal.returns
returns c =
    let looks = c.in_ok-number.ensures {u = tt} in
    let mark : cond (c.args.self.now.place == start_of c.args.self.now.opens) 1 0 ≡ c.from.result =
    byte (c.args.self.now.place == start_of c.args.self.now.opens) ∙ ap bool_byte (sym c.is_at_start-is_empty.ensures) ∙ sym c.from.ensures in
    let reads : read closing c.args.self.now ≡ Ok c.from.result =
    read_right closing c.args.self.now c.closing_width-width.result c.in_ok-number.number c.closing_width-width.ensures.width looks.0 looks.1
    (pad_right c.in_ok-number.number c.if-number-ne0.false)
    ∙ ap (λ (n : ℕ). let r : Result ℕ Reason = Ok n in r) mark in
    (reads, c.go.ensures ∙ moved_at closing c.args.self.now c.closing_width-width.result c.from.result c.closing_width-width.ensures.width (λ place. refl) reads)
