use Rattle.std.proofs.Common.{arith}
use Rattle.du_contexts.proofs.RenewSteps.{anew_all, anew_sorted}
use Rattle.du_contexts.proofs.renewing.anew.Goals as goal

pub loop-uplink-preserved : goal.loop-uplink-preserved
loop-uplink-preserved c = record {
  number = omega arith;
  sorted =
      anew_sorted c.loop-uplink.teid c.loop-uplink.uplink-index c.args.uplinks.now _ c.loop-uplink.bearers c.put.new.self
      c.loop-uplink-test.true c.loop-uplink.invariant.sorted c.in_ok-put.ensures.ok;
  all =
      anew_all c.loop-uplink.teid c.loop-uplink.uplink-index c.args.uplinks.now _ c.loop-uplink.bearers c.put.new.self
      c.loop-uplink-test.true c.loop-uplink.invariant.sorted c.in_ok-put.ensures.ok _ c.loop-uplink.invariant.all;
}
