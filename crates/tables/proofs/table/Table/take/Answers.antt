use Rattle.std.proofs.Common.{List, ap, ◌∙◌}
use Rattle.tables.specs.Tables.{without}
use Rattle.tables.proofs.TableLemmas.{removed}
use Rattle.tables.proofs.table.Table.take.Goals as goal

pub returns-clause-rest : goal.returns-clause-rest
returns-clause-rest g c =
    c.remove.ensures.entries
    ∙ removed g.met.K.Ord.total c.args.key.now c.self.inside.map.entries c.len.ensures.ordered
    ∙ ap (λ (es : List (g.row.K.Denot × g.row.V.Denot)). without g.K.Ord.cmp es c.args.key.now) c.self.view_is
