use Rattle.std.proofs.Common.{refl}
use Rattle.std.proofs.lemmas.Result.{err_from_is_err_and}
use Rattle.aper_decode.proofs.InPlace.{list_wrong, list_begun}
use Rattle.aper_decode.proofs.list.start_list.Goals as goal

pub returns-in_err-left-clause-asked : goal.returns-in_err-left-clause-asked
returns-in_err-left-clause-asked c = λ of.
    let e = err_from_is_err_and c.from_residual.result c.from_residual.ensures.1 in
    rw (e.1, e.2) (λ p K.
    list_wrong of p K c.args.element c.args.size c.in_err-left.field-0.0 c.args.cursor.now c.ask_count.new.cursor
    (c.in_err-left.ensures {u = tt}).asked)

pub returns-clause-asked : goal.returns-clause-asked
returns-clause-asked c = λ of p K.
    list_begun of p K c.args.element c.args.size (record { element = c.args.element; left = c.in_ok-left.left; made = c.in_ok-made.made })
    c.args.cursor.now c.ask_count.new.cursor refl (c.in_ok-made.ensures {u = tt}).items (c.in_ok-left.ensures {u = tt}).asked
