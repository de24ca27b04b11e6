use Rattle.std.proofs.Common.{◌+◌, arith}
use Rattle.du_contexts.proofs.PlaceSteps.{static_turn}
use Rattle.du_contexts.proofs.placing.static_uplinks.Goals as goal

pub loop-i-preserved : goal.loop-i-preserved
loop-i-preserved c = record {
  number = omega arith;
  all =
      static_turn c.args.uplink c.loop-i.i c.loop-i.teid (c.loop-i.i + 1) c.loop-i.tunnels c.push.new.self
      c.loop-i.invariant.number (omega arith) c.loop-i.invariant.all c.in_ok-push.ensures.ok;
}
