use Rattle.std.proofs.Common.{◌∙◌}
use Rattle.asn1_module.specs.graph.Walks.{MarksLoops}
use Rattle.asn1_module.proofs.graph.LoopLemmas.{loops_marked, written}
use Rattle.asn1_module.proofs.graph.paths.looping.Goals as goal

pub returns : goal.returns
returns c =
    written (MarksLoops c.args.count c.args.edges.now) c.mark_level.new.table c.in_ok-table.table.items c.in_ok-table.table.len (c.mark_level.auto.table ∙ c.deref_mut.ensures.len)
    (loops_marked c.args.count c.args.edges.now c.args.ranks.now c.mark_level.new.table (c.mark_level.auto.table ∙ c.deref_mut.ensures.len ∙ c.in_ok-table.ensures.len) (c.falls.ensures c.if-not-falls.false) c.mark_level.ensures)
