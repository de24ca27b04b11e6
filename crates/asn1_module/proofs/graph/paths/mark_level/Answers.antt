use Rattle.std.proofs.Common.{arith}
use Rattle.asn1_module.proofs.graph.LoopLemmas.{level_more, none_level, all_level}
use Rattle.asn1_module.proofs.graph.paths.mark_level.Goals as goal

pub loop-edge-init : goal.loop-edge-init
loop-edge-init c = none_level c.args.ranks.now c.args.table.now

pub loop-edge-preserved : goal.loop-edge-preserved
loop-edge-preserved c = level_more c.args.ranks.now c.args.edges.now c.loop-edge.edge-index _ _ _ (omega arith) c.level_step.ensures c.loop-edge.invariant

pub returns : goal.returns
returns c = all_level c.args.ranks.now c.args.edges.now c.loop-edge.edge-index c.loop-edge.table (omega arith) c.loop-edge.invariant
