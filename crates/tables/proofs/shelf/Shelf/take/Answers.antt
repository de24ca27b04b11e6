use Rattle.std.proofs.Common.{List, ap, ◌∙◌, sym}
use Rattle.slab.specs.Slab.{get}
use Rattle.tables.specs.Tables.{find, without}
use Rattle.tables.proofs.ShelfLemmas.{seen_found, seen_none, taken, taken_seen, never_none, unseen}
use Rattle.tables.proofs.shelf.Shelf.take.Goals as goal

pub invariant_of-self : goal.invariant_of-self
invariant_of-self g c =
    taken g.K.Ord.cmp c.args.key.now (get c.self.inside.slots) (get c.try_remove.new.self) c.self.inside.index c.take.new.self c.in-Some.slot
    c.self.invariant c.in-Some.ensures.ordered c.in-Some.ensures.rest (sym c.in-Some.ensures.value) c.try_remove.ensures.updates.others

pub returns-in-Some-clause-value : goal.returns-in-Some-clause-value
returns-in-Some-clause-value g c =
    c.try_remove.ensures.value
    ∙ seen_found g.K.Ord.cmp c.args.key.now (get c.self.inside.slots) c.self.inside.index c.in-Some.slot c.self.invariant.full (sym c.in-Some.ensures.value)
    ∙ ap (λ (m : List (g.row.K.Denot × g.row.V.Denot)). find g.K.Ord.cmp m c.args.key.now) c.self.view_is

pub returns-in-Some-clause-rest : goal.returns-in-Some-clause-rest
returns-in-Some-clause-rest g c =
    taken_seen g.K.Ord.cmp c.args.key.now (get c.self.inside.slots) (get c.try_remove.new.self) c.self.inside.index c.take.new.self c.in-Some.slot
    c.self.invariant c.in-Some.ensures.rest (sym c.in-Some.ensures.value) c.try_remove.ensures.updates.others
    ∙ ap (λ (m : List (g.row.K.Denot × g.row.V.Denot)). without g.K.Ord.cmp m c.args.key.now) c.self.view_is

pub returns-in-Some-clause-none : goal.returns-in-Some-clause-none
returns-in-Some-clause-none g c =
    never_none g.K.Ord.cmp c.args.key.now (get c.self.inside.slots) c.self.inside.index c.in-Some.slot c.try_remove.result _ c.self.invariant.full
    (sym c.in-Some.ensures.value) c.try_remove.ensures.value

pub returns-in-None-clause-value : goal.returns-in-None-clause-value
returns-in-None-clause-value g c =
    seen_none g.K.Ord.cmp c.args.key.now (get c.self.inside.slots) c.self.inside.index c.self.invariant.full (sym c.in-None.ensures.value)
    ∙ ap (λ (m : List (g.row.K.Denot × g.row.V.Denot)). find g.K.Ord.cmp m c.args.key.now) c.self.view_is

pub returns-in-None-clause-rest : goal.returns-in-None-clause-rest
returns-in-None-clause-rest g c =
    unseen g.K.Ord.cmp c.args.key.now (get c.self.inside.slots) c.self.inside.index c.take.new.self c.in-None.ensures.rest
    ∙ ap (λ (m : List (g.row.K.Denot × g.row.V.Denot)). without g.K.Ord.cmp m c.args.key.now) c.self.view_is
