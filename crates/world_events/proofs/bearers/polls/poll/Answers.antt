use Rattle.std.proofs.Common.{refl}
use Rattle.gnb_types.specs.declared.inputs.Order.TheVariants as orders
use Rattle.run_defs.specs.States.{order_for}
use Rattle.run_defs.specs.UnitRuns.{unit_world}
use Rattle.run_links.specs.Networks.{state_of}
use Rattle.world_events.proofs.bearers.Polled.{polls, polls_nothing, is_there}
use Rattle.world_events.proofs.bearers.polls.poll.Goals as goal

pub returns-in-Ok-clause-gives : goal.returns-in-Ok-clause-gives
returns-in-Ok-clause-gives g c =
    let records = g.U.Units.records in
    polls (unit_world g.C.MessageCodec.codec g.U.Units.answer) c.args.ue c.args.bearer
    (state_of (records c.args.run_state.now.units) c.args.run_state.now.core c.args.run_state.now.network) c.in-Ok.node
    (state_of (records c.step.new.self.units) c.step.new.self.core c.step.new.self.network) c.args.lines.now c.step.new.lines c.step.result
    c.in-Ok.ensures (c.step.ensures.gives (order_for (orders.Poll c.args.ue c.args.bearer)) refl)

pub returns-in_ok-push-in-Err-clause-gives : goal.returns-in_ok-push-in-Err-clause-gives
returns-in_ok-push-in-Err-clause-gives g c =
    let records = g.U.Units.records in
    polls_nothing (unit_world g.C.MessageCodec.codec g.U.Units.answer) c.args.ue c.args.bearer
    (state_of (records c.args.run_state.now.units) c.args.run_state.now.core c.args.run_state.now.network) c.in-Err.reason c.args.lines.now c.push.new.self
    c.in-Err.ensures c.in_ok-push-in-Err.ensures.ok

pub step-requires-clause-there : goal.step-requires-clause-there
step-requires-clause-there g c =
    is_there (unit_world g.C.MessageCodec.codec g.U.Units.answer) c.args.ue c.args.bearer
    (state_of (g.U.Units.records c.args.run_state.now.units) c.args.run_state.now.core c.args.run_state.now.network) c.in-Ok.node c.in-Ok.ensures
