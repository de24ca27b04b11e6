use Rattle.std.proofs.Common.{length, subst, sym}
use Rattle.asn1_module.specs.graph.Tables.{MarksWell}
use Rattle.asn1_module.proofs.graph.PathLemmas.{no_marks}
use Rattle.asn1_module.proofs.graph.paths.spread.Goals as goal

pub loop-init : goal.loop-init
loop-init c =
    subst (MarksWell (length c.args.table.now) c.args.steps.now.edges.now c.args.start) (sym c.requires.unmarked)
    (no_marks (length c.args.table.now) c.args.steps.now.edges.now c.args.start)
