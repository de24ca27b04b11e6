use Rattle.std.proofs.Common.{arith}
use Rattle.asn1_module.proofs.graph.GraphLemmas.{range_goes_on, range_done}
use Rattle.asn1_module.proofs.graph.graph.push_range.Goals as goal

pub loop-to-preserved : goal.loop-to-preserved
loop-to-preserved c = range_goes_on _ _ c.args.from c.loop-to.to c.args.end _ (omega arith) c.in_ok-push.ensures.ok c.loop-to.invariant

pub returns : goal.returns
returns c = range_done _ c.args.from c.loop-to.to c.args.end _ (omega arith) c.loop-to.invariant
