use Rattle.std.proofs.Common.{length, subst, sym, refl}
use Rattle.asn1_module.specs.graph.Tables.{TellsWell}
use Rattle.asn1_module.proofs.graph.PathLemmas.{depth_some_keep, depth_keeps_on, depth_lessens, depth_done, own_weights}
use Rattle.asn1_module.proofs.graph.paths.deepen_all.Goals as goal

pub loop-init : goal.loop-init
loop-init c =
    depth_some_keep (length c.args.weights.now) c.args.edges.now c.args.some.now c.args.weights.now _ _ _ c.requires.among c.depth_round.ensures
    (subst (TellsWell (length c.args.weights.now) c.args.edges.now c.args.weights.now) (sym c.requires.own)
    (own_weights (length c.args.weights.now) c.args.edges.now c.args.weights.now refl))

pub loop-preserved : goal.loop-preserved
loop-preserved c = depth_keeps_on _ c.args.edges.now c.args.weights.now _ _ _ c.depth_round-in-loop.ensures c.loop.invariant

pub loop-smaller : goal.loop-smaller
loop-smaller c = depth_lessens c.args.weights.now _ _ _ c.args.edges.now c.depth_round-in-loop.ensures c.loop-test.true

pub returns : goal.returns
returns c = depth_done _ c.args.edges.now c.args.weights.now _ _ _ c.depth_round-in-loop.ensures c.loop-test.false c.loop.invariant
