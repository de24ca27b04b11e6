use Rattle.std.proofs.Common.{List, ap, ◌∙◌, sym}
use Rattle.slab.specs.Slab.{get}
use Rattle.tables.specs.Tables.{find}
use Rattle.tables.proofs.ShelfLemmas.{seen_found, seen_none}
use Rattle.tables.proofs.shelf.Shelf.get.Goals as goal

pub returns-in-Some : goal.returns-in-Some
returns-in-Some g c =
    c.get-in-Some.ensures
    ∙ seen_found g.K.Ord.cmp c.args.key.now (get c.self.inside.slots) c.self.inside.index c.in-Some.slot.now c.self.invariant.full (sym c.in-Some.ensures)
    ∙ ap (λ (m : List (g.row.K.Denot × g.row.V.Denot)). find g.K.Ord.cmp m c.args.key.now) c.self.view_is

pub returns-in-None : goal.returns-in-None
returns-in-None g c =
    seen_none g.K.Ord.cmp c.args.key.now (get c.self.inside.slots) c.self.inside.index c.self.invariant.full (sym c.in-None.ensures)
    ∙ ap (λ (m : List (g.row.K.Denot × g.row.V.Denot)). find g.K.Ord.cmp m c.args.key.now) c.self.view_is
