use Rattle.std.proofs.Common.{arith}
use Rattle.asn1_module.proofs.graph.AmongLemmas.{among_at}
use Rattle.asn1_module.proofs.graph.PathLemmas.{mark_step_keeps}
use Rattle.asn1_module.proofs.graph.paths.mark_next.Goals as goal

pub loop-edge-preserved : goal.loop-edge-preserved
loop-edge-preserved c =
    mark_step_keeps _ c.args.steps.now.edges.now c.args.start _ _ _ _ c.requires.inner
    (c.of-edge-items.ensures _ (among_at c.of-edge-items.result.now c.loop-edge.edge-index _ (omega arith))) c.mark_step.ensures c.loop-edge.invariant
