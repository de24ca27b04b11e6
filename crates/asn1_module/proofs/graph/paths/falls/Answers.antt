use Rattle.std.proofs.Common.{arith}
use Rattle.asn1_defs.specs.Graph.{edge}
use Rattle.asn1_module.proofs.graph.LoopLemmas.{falls_more, none_falls, all_fall}
use Rattle.asn1_module.proofs.graph.paths.falls.Goals as goal

pub loop-edge-init : goal.loop-edge-init
loop-edge-init c = none_falls c.args.ranks.now

pub loop-edge-preserved : goal.loop-edge-preserved
loop-edge-preserved c =
    falls_more c.args.ranks.now c.args.edges.now c.loop-edge.edge-index (edge 0 0) c.loop-edge-test.true
    (omega (arith, c.entry.ensures, c.entry-in-loop-edge.ensures, c.if-entry.false)) c.loop-edge.invariant

pub returns : goal.returns
returns c = λ _. all_fall c.args.ranks.now c.args.edges.now c.loop-edge.edge-index (omega arith) c.loop-edge.invariant
