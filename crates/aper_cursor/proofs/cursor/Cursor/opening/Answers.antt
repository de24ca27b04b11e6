use Rattle.std.proofs.Common.{ap, ◌∙◌, arith}
use Rattle.std.proofs.lemmas.Result.{err_from_is_err_and}
use Rattle.proof_aper.proofs.values.FoundExtents.{opening_read}
use Rattle.aper_cursor.specs.inside.Places.{entered}
use Rattle.aper_cursor.proofs.Judged.{opening_as}
use Rattle.aper_cursor.proofs.cursor.Cursor.opening.Goals as goal

pub returns-in_err-length : goal.returns-in_err-length
returns-in_err-length c =
    let p = err_from_is_err_and c.from_residual.result c.from_residual.ensures.1 in
    let wrong = c.in_err-length.ensures {u = tt} in
    rw (p.1, p.2) (opening_as c.args.self.now ∙ wrong.0, wrong.1)

pub enter-requires : goal.enter-requires
enter-requires c =
    let right = c.in_ok-length.ensures {u = tt} in
    omega (arith, (opening_read c.args.self.now c.in_ok-length.length (opening_as c.args.self.now ∙ right.0)).1)

pub returns : goal.returns
returns c =
    let right = c.in_ok-length.ensures {u = tt} in
    let enters = c.in_ok-enter.ensures {u = tt} in
    (opening_as c.args.self.now ∙ right.0, enters ∙ ap (entered c.in_ok-length.length) right.1)
