use Rattle.aper_frames.proofs.heads.Slots.{none_left}
use Rattle.aper_frames.proofs.heads.elements.rows_left.Goals as goal

pub returns-in-None : goal.returns-in-None
returns-in-None c =
    none_left c.args.known.now c.args.left.now c.args.id c.from.result c.from-2.result c.find_row.result c.from.ensures c.from-2.ensures
    c.find_row.ensures (c.if-is_none.ensures {u = tt}) (c.in-None.ensures {u = tt})
