use Rattle.std.proofs.Common.{◌≡◌, List, Some, inr, ap, ◌∙◌, sym}
use Rattle.std.specs.Prelude.{is_some}
use Rattle.slab.specs.Slab.{get, with_value, Updates}
use Rattle.slab.proofs.SlabLemmas.{Updates-with_value}
use Rattle.tables.specs.Tables.{find}
use Rattle.tables.proofs.ShelfLemmas.{seen_found, seen_none, stands_at, rewritten, shelf_lent, shelf_same}
use Rattle.tables.proofs.shelf.Shelf.get_mut.Goals as goal

pub returns-in-None : goal.returns-in-None
returns-in-None g c = (
  ap inr c.self.view_is,
  record {
    writes_back = tt;
    value =
        seen_none g.K.Ord.cmp c.args.key.now (get c.self.inside.slots) c.self.inside.index c.self.invariant.full (sym c.in-None.ensures)
        ∙ ap (λ (m : List (g.row.K.Denot × g.row.V.Denot)). find g.K.Ord.cmp m c.args.key.now) c.self.view_is;
    same = tt;
  },
)

pub invariant_of-self-lent : goal.invariant_of-self-lent
invariant_of-self-lent g c =
    λ _. (
      λ w.
          let slots = c.self.inside.slots in
          let slot = c.in-Some.slot.now in
          let new : Updates slots (with_value slots slot w) slot (Some w) =
          Updates-with_value slots slot w
          (stands_at g.K.Ord.cmp c.args.key.now (get slots) c.self.inside.index slot c.self.invariant.full (sym c.in-Some.ensures)) in
          rewritten g.K.Ord.cmp c.args.key.now (get slots) (get (with_value slots slot w)) c.self.inside.index slot c.self.invariant
          (ap is_some new.changed) new.others,
      c.self.invariant,
    )

pub returns : goal.returns
returns g c =
    let slots = c.self.inside.slots in
    let slot = c.in-Some.slot.now in
    let found : find g.K.Ord.cmp c.self.inside.index c.args.key.now ≡ Some slot = sym c.in-Some.ensures in
    let new : (w : g.row.V.Denot) → Updates slots (with_value slots slot w) slot (Some w) =
    λ w.
    Updates-with_value slots slot w
    (stands_at g.K.Ord.cmp c.args.key.now (get slots) c.self.inside.index slot c.self.invariant.full found) in (
      shelf_lent g.K.Ord.cmp c.args.key.now g.met.K.Ord.total (get slots) (λ w. get (with_value slots slot w)) c.self.inside.index slot
          c.get_mut.result c.args.self.now c.self.invariant found (λ w. (new w).changed) (λ w. (new w).others) c.self.view_is,
      record {
        writes_back = tt;
        value =
            c.get_mut.ensures.value
            ∙ seen_found g.K.Ord.cmp c.args.key.now (get slots) c.self.inside.index slot c.self.invariant.full found
            ∙ ap (λ (m : List (g.row.K.Denot × g.row.V.Denot)). find g.K.Ord.cmp m c.args.key.now) c.self.view_is;
        same =
            shelf_same g.K.Ord.cmp c.args.key.now g.met.K.Ord.total (get slots) c.self.inside.index slot c.get_mut.result c.args.self.now
            c.self.invariant found c.get_mut.ensures.value c.self.view_is;
      },
    )
