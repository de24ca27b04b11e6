use Rattle.asn1_module.proofs.graph.PathLemmas.{mark_keeps_on, mark_lessens, mark_done}
use Rattle.asn1_module.proofs.graph.paths.mark_all.Goals as goal

pub loop-preserved : goal.loop-preserved
loop-preserved c = mark_keeps_on _ c.args.steps.now.edges.now c.args.start _ _ _ c.requires.inner c.mark_round.ensures c.loop.invariant

pub loop-smaller : goal.loop-smaller
loop-smaller c = mark_lessens c.args.start _ _ _ c.args.steps.now.edges.now c.mark_round.ensures c.loop-test.true

pub returns : goal.returns
returns c = mark_done _ c.args.steps.now.edges.now c.args.start _ _ _ c.mark_round.ensures c.loop-test.false c.loop.invariant
