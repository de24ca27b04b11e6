use Rattle.run_defs.specs.Events.{pump}
use Rattle.run_defs.specs.Settling.{attached_plans, move_each, all_tunnels}
use Rattle.run_defs.specs.UnitRuns.{unit_world}
use Rattle.run_links.specs.Networks.{state_of}
use Rattle.world.proofs.settling.Three.{stops_first, stops_second, all_three}
use Rattle.world.proofs.settling.rounds.opening.Goals as goal

pub returns-in-Err-clause-gives : goal.returns-in-Err-clause-gives
returns-in-Err-clause-gives g c =
    let world = unit_world g.C.MessageCodec.codec g.U.Units.answer in
    let records = g.U.Units.records in
    let s = state_of (records c.args.run_state.now.units) c.args.run_state.now.core c.args.run_state.now.network in
    stops_first (move_each world (attached_plans s) s) (pump world) (all_tunnels world) c.args.lines.now c.move_each.new.lines
    (state_of (records c.move_each.new.run_state.units) c.move_each.new.run_state.core c.move_each.new.run_state.network) c.in-Err.cause
    c.in-Err.ensures.gives

pub returns-in-Err-pump-clause-gives : goal.returns-in-Err-pump-clause-gives
returns-in-Err-pump-clause-gives g c =
    let world = unit_world g.C.MessageCodec.codec g.U.Units.answer in
    let records = g.U.Units.records in
    let s = state_of (records c.args.run_state.now.units) c.args.run_state.now.core c.args.run_state.now.network in
    stops_second (move_each world (attached_plans s) s) (pump world) (all_tunnels world) c.args.lines.now c.move_each.new.lines
    c.pump.new.lines (state_of (records c.move_each.new.run_state.units) c.move_each.new.run_state.core c.move_each.new.run_state.network)
    (state_of (records c.pump.new.run_state.units) c.pump.new.run_state.core c.pump.new.run_state.network) c.in-Err-pump.cause c.in-Ok.ensures.gives
    c.in-Err-pump.ensures.gives

pub returns-clause-gives : goal.returns-clause-gives
returns-clause-gives g c =
    let world = unit_world g.C.MessageCodec.codec g.U.Units.answer in
    let records = g.U.Units.records in
    let s = state_of (records c.args.run_state.now.units) c.args.run_state.now.core c.args.run_state.now.network in
    all_three (move_each world (attached_plans s) s) (pump world) (all_tunnels world) c.args.lines.now c.move_each.new.lines
    c.pump.new.lines c.all_tunnels.new.lines
    (state_of (records c.move_each.new.run_state.units) c.move_each.new.run_state.core c.move_each.new.run_state.network)
    (state_of (records c.pump.new.run_state.units) c.pump.new.run_state.core c.pump.new.run_state.network)
    (state_of (records c.all_tunnels.new.run_state.units) c.all_tunnels.new.run_state.core c.all_tunnels.new.run_state.network) c.all_tunnels.result
    c.in-Ok.ensures.gives c.in-Ok-pump.ensures.gives c.all_tunnels.ensures.gives
