use Rattle.std.proofs.Common.{List, ap, ◌∙◌}
use Rattle.tables.specs.Tables.{entry_after}
use Rattle.tables.proofs.TableLemmas.{next_is_after}
use Rattle.tables.proofs.table.Table.after.Goals as goal

pub returns : goal.returns
returns g c =
    next_is_after g.met.K.Ord.total c.args.key.now c.self.inside.map.entries c.range.result c.next.new.self c.next.result
    (c.range.ensures.between tt) c.next.ensures.steps
    ∙ ap (λ (es : List (g.row.K.Denot × g.row.V.Denot)). entry_after g.K.Ord.cmp es c.args.key.now) c.self.view_is
