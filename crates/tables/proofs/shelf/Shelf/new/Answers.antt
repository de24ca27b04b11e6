use Rattle.std.proofs.Common.{ap, List, ℕ}
use Rattle.slab.specs.Slab.{get}
use Rattle.tables.specs.Shelves.{seen}
use Rattle.tables.proofs.shelf.Shelf.new.Goals as goal

pub returns : goal.returns
unfolding seen
returns g c = ap (λ (es : List (g.row.K.Denot × ℕ)). seen (get c.new-2.result) es) c.new.ensures
