use Rattle.std.proofs.Common.{◌≡◌, List, Some, subst}
use Rattle.std.specs.Prelude.{All}
use Rattle.tables.specs.Tables.{find}
use Rattle.tables.proofs.table.Table.iter.Goals as goal

pub returns-clause-found : goal.returns-clause-found
unfolding find
returns-clause-found g c =
    subst (λ (es : List (g.row.K.Denot × g.row.V.Denot)). All (λ e. find g.K.Ord.cmp es e.0 ≡ Some e.1) es) c.self.view_is c.iter.ensures.found
