use Rattle.std.proofs.Common.{arith}
use Rattle.unit_defs.specs.Messages.{bearers_of, are_first_bearers}
use Rattle.du_node.proofs.rows.FirstBearers.{first_goes, first_not, first_ends}
use Rattle.du_node.proofs.rows.terminals.are_first_bearers.Goals as goal

pub loop-tunnel-preserved : goal.loop-tunnel-preserved
loop-tunnel-preserved c = record {
  number = omega arith;
  so_far =
      first_goes c.loop-tunnel.next c.loop-tunnel.tunnel-index c.args.tunnels.now _ (are_first_bearers (bearers_of c.args.tunnels.now))
      c.loop-tunnel-test.true c.loop-tunnel.invariant.so_far c.if-not-is_bearer.ensures;
}

pub returns-then-not-is_bearer : goal.returns-then-not-is_bearer
returns-then-not-is_bearer c =
    first_not c.loop-tunnel.next c.loop-tunnel.tunnel-index c.args.tunnels.now _ (are_first_bearers (bearers_of c.args.tunnels.now))
    c.loop-tunnel-test.true c.loop-tunnel.invariant.so_far c.if-not-is_bearer.ensures

pub returns : goal.returns
returns c =
    first_ends c.loop-tunnel.next c.loop-tunnel.tunnel-index c.args.tunnels.now (are_first_bearers (bearers_of c.args.tunnels.now))
    c.loop-tunnel-test.false c.loop-tunnel.invariant.so_far
