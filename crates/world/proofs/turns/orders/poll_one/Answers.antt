use Rattle.world.proofs.turns.Unconfirmed.{unconfirmed_there}
use Rattle.world.proofs.turns.orders.poll_one.Goals as goal

pub quiet_order-requires-clause-there : goal.quiet_order-requires-clause-there
quiet_order-requires-clause-there g c =
    unconfirmed_there (g.U.Units.records c.args.run_state.now.units) c.serving_gnb-gnb.result c.in-Some.up c.args.bearer.0 c.args.bearer.1
    c.if-not-is_unconfirmed.ensures
