use Rattle.std.proofs.Common.{List, ap, ◌∙◌}
use Rattle.std.specs.Prelude.{is_some}
use Rattle.slab.specs.Slab.{get}
use Rattle.tables.specs.Tables.{find}
use Rattle.tables.proofs.ShelfLemmas.{has_seen}
use Rattle.tables.proofs.shelf.Shelf.has.Goals as goal

pub returns : goal.returns
returns g c =
    c.has.ensures
    ∙ has_seen g.K.Ord.cmp c.args.key.now (get c.self.inside.slots) c.self.inside.index c.self.invariant.full
    ∙ ap (λ (m : List (g.row.K.Denot × g.row.V.Denot)). is_some (find g.K.Ord.cmp m c.args.key.now)) c.self.view_is
