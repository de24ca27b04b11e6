use Rattle.aper_decode.proofs.InPlace.{count_refused}
use Rattle.aper_decode.proofs.list.read_list.Goals as goal

pub returns-in-Err : goal.returns-in-Err
returns-in-Err c = λ of is.
    count_refused of c.args.list.size c.args.list.element c.in-Err.error c.args.cursor.now c.start_list.new.cursor (c.in-Err.ensures.asked of)
