use Rattle.std.proofs.Common.{List, ap, ◌∙◌, sym, ℕ, ◌≡◌}
use Rattle.slab.specs.Slab.{Slab, get}
use Rattle.tables.specs.Tables.{put}
use Rattle.tables.proofs.ShelfLemmas.{added, added_seen}
use Rattle.tables.proofs.shelf.Shelf.add.Goals as goal

pub invariant_of-self-2 : goal.invariant_of-self-2
invariant_of-self-2 g c =
    let slot = c.insert_reserved.result in
    let facts = c.insert_reserved.ensures in
    let at : (n : ℕ) → get c.reserve.new.self n ≡ get c.self.inside.slots n =
    λ n. ap (λ (s : Slab g.row.V.Denot). get s n) c.reserve.ensures.rest_kept in
    added g.K.Ord.cmp c.args.key (get c.self.inside.slots) (get c.insert_reserved.new.self) c.self.inside.index c.put.new.self slot c.args.value
    c.self.invariant c.put.ensures.ordered
    (c.in_ok-put.ensures.ok ∙ ap (put g.K.Ord.cmp c.self.inside.index c.args.key) (c.vacant_key.ensures.value ∙ sym facts.key))
    (sym (at slot) ∙ facts.was_vacant) facts.updates.changed (λ n other. facts.updates.others n other ∙ at n)

pub returns-clause-ok : goal.returns-clause-ok
returns-clause-ok g c =
    let slot = c.insert_reserved.result in
    let facts = c.insert_reserved.ensures in
    let at : (n : ℕ) → get c.reserve.new.self n ≡ get c.self.inside.slots n =
    λ n. ap (λ (s : Slab g.row.V.Denot). get s n) c.reserve.ensures.rest_kept in
    added_seen g.K.Ord.cmp c.args.key (get c.self.inside.slots) (get c.insert_reserved.new.self) c.self.inside.index c.put.new.self slot c.args.value
    c.self.invariant
    (c.in_ok-put.ensures.ok ∙ ap (put g.K.Ord.cmp c.self.inside.index c.args.key) (c.vacant_key.ensures.value ∙ sym facts.key))
    (sym (at slot) ∙ facts.was_vacant) facts.updates.changed (λ n other. facts.updates.others n other ∙ at n)
    ∙ ap (λ (m : List (g.row.K.Denot × g.row.V.Denot)). put g.K.Ord.cmp m c.args.key c.args.value) c.self.view_is
