use Rattle.std.proofs.lemmas.Result.{err_from_is_err_and}
use Rattle.aper_values.specs.types.Types.{tree}
use Rattle.aper_decode.proofs.InPlace.{count_wrong}
use Rattle.aper_decode.proofs.list.begin_list.Goals as goal

pub returns-in_err-members-clause-asked : goal.returns-in_err-members-clause-asked
returns-in_err-members-clause-asked c =
    let p = err_from_is_err_and c.from_residual.result c.from_residual.ensures.1 in
    let of = tree c.args.m.now in
    rw (p.1, p.2) (
    count_wrong of c.args.size c.args.element c.in_err-members.field-0.0 c.args.frames.now c.args.cursor.now c.start_list.new.cursor
    ((c.in_err-members.ensures {u = tt}).asked of))
