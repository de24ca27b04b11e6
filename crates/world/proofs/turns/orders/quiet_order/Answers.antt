use Rattle.std.proofs.Common.{None, refl}
use Rattle.run_defs.specs.States.{order_for, goes_on}
use Rattle.run_defs.specs.Steps.{does}
use Rattle.run_defs.specs.UnitRuns.{unit_world}
use Rattle.run_links.specs.Networks.{state_of}
use Rattle.world.proofs.turns.Turned.{quietly_moves, quietly_stops}
use Rattle.world.proofs.turns.orders.quiet_order.Goals as goal

pub returns-in-Ok-clause-gives : goal.returns-in-Ok-clause-gives
returns-in-Ok-clause-gives g c =
    let world = unit_world g.C.MessageCodec.codec g.U.Units.answer in
    let records = g.U.Units.records in
    let s = state_of (records c.args.run_state.now.units) c.args.run_state.now.core c.args.run_state.now.network in
    let t = state_of (records c.try_step.new.self.units) c.try_step.new.self.core c.try_step.new.self.network in
    quietly_moves world s t (does world c.args.node (order_for c.args.order) None goes_on s) c.in-Ok.field-0 c.args.lines.now c.try_step.new.lines
    (c.in-Ok.ensures.gives (order_for c.args.order) refl)

pub returns-in-Err-clause-gives : goal.returns-in-Err-clause-gives
returns-in-Err-clause-gives g c =
    let world = unit_world g.C.MessageCodec.codec g.U.Units.answer in
    let records = g.U.Units.records in
    let s = state_of (records c.args.run_state.now.units) c.args.run_state.now.core c.args.run_state.now.network in
    let t = state_of (records c.try_step.new.self.units) c.try_step.new.self.core c.try_step.new.self.network in
    quietly_stops world s t (does world c.args.node (order_for c.args.order) None goes_on s) c.in-Err.cause c.args.lines.now c.try_step.new.lines
    (c.in-Err.ensures.gives (order_for c.args.order) refl)
