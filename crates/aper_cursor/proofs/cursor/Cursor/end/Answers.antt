use Rattle.std.proofs.Common.{Bool, refl, sym, ap, ◌∙◌}
use Rattle.std.proofs.lemmas.Result.{err_from_is_err_and}
use Rattle.aper_defs.specs.declared.reason.Reason.TheVariants.{Tail}
use Rattle.aper_defs.specs.Fields.{end}
use Rattle.aper_defs.specs.Reading.{unless, outer}
use Rattle.aper_cursor.proofs.Judged.{read_passes, read_wrong, read_right, place_same}
use Rattle.aper_cursor.proofs.cursor.Cursor.end.Goals as goal

pub returns-in_err-number : goal.returns-in_err-number
returns-in_err-number c =
    let p = err_from_is_err_and c.from_residual.result c.from_residual.ensures.1 in
    rw (p.1, p.2) (read_passes end c.args.self.now 0 c.in_err-number.field-0.0 refl (c.in_err-number.ensures {u = tt}), refl)

pub returns-then-not-is_ended : goal.returns-then-not-is_ended
returns-then-not-is_ended c =
    let looks = c.in_ok-number.ensures {u = tt} in (
      read_wrong end c.args.self.now 0 c.in_ok-number.number Tail refl looks.0 looks.1
          (ap (λ (b : Bool). unless b Tail) (sym c.is_ended.ensures ∙ c.if-not-is_ended.true)),
      refl,
    )

pub returns : goal.returns
returns c =
    let looks = c.in_ok-number.ensures {u = tt} in (
      read_right end c.args.self.now 0 c.in_ok-number.number refl looks.0 looks.1
          (ap (λ (b : Bool). unless b Tail) (sym c.is_ended.ensures ∙ c.if-not-is_ended.false)),
      c.leave.ensures ∙ place_same c.args.self.now (outer c.args.self.now.opens),
    )
