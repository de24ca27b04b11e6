use Rattle.std.proofs.Common.{arith}
use Rattle.du_contexts.proofs.BearersMade.{made_all, made_sorted}
use Rattle.du_contexts.proofs.making.made.Goals as goal

pub loop-tunnel-preserved : goal.loop-tunnel-preserved
loop-tunnel-preserved c = record {
  number = omega arith;
  sorted =
      made_sorted c.args.up c.loop-tunnel.teid c.loop-tunnel.tunnel-index c.args.uplinks.now _ c.loop-tunnel.bearers c.put.new.self
      c.loop-tunnel-test.true c.loop-tunnel.invariant.sorted c.in_ok-put.ensures.ok;
  all =
      made_all c.args.up c.loop-tunnel.teid c.loop-tunnel.tunnel-index c.args.uplinks.now _ c.loop-tunnel.bearers c.put.new.self
      c.loop-tunnel-test.true c.loop-tunnel.invariant.sorted c.in_ok-put.ensures.ok _ c.loop-tunnel.invariant.all;
}
