use Rattle.run_defs.specs.Events.{pump, tick}
use Rattle.run_defs.specs.Settling.{round}
use Rattle.world.specs.settling.Rounds.{packets_move}
use Rattle.run_defs.specs.UnitRuns.{unit_world}
use Rattle.run_links.specs.Networks.{state_of}
use Rattle.world.proofs.settling.Three.{stops_first, stops_second, all_three}
use Rattle.world.proofs.settling.rounds.round.Goals as goal

pub returns-in-Err-clause-gives : goal.returns-in-Err-clause-gives
unfolding round
returns-in-Err-clause-gives g c =
    let world = unit_world g.C.MessageCodec.codec g.U.Units.answer in
    let records = g.U.Units.records in
    let s = state_of (records c.args.run_state.now.units) c.args.run_state.now.core c.args.run_state.now.network in
    stops_first (packets_move world s) (pump world) (tick world) c.args.lines.now c.packets_move.new.lines
    (state_of (records c.packets_move.new.run_state.units) c.packets_move.new.run_state.core c.packets_move.new.run_state.network) c.in-Err.cause
    c.in-Err.ensures.gives

pub returns-in-Err-pump-clause-gives : goal.returns-in-Err-pump-clause-gives
unfolding round
returns-in-Err-pump-clause-gives g c =
    let world = unit_world g.C.MessageCodec.codec g.U.Units.answer in
    let records = g.U.Units.records in
    let s = state_of (records c.args.run_state.now.units) c.args.run_state.now.core c.args.run_state.now.network in
    stops_second (packets_move world s) (pump world) (tick world) c.args.lines.now c.packets_move.new.lines c.pump.new.lines
    (state_of (records c.packets_move.new.run_state.units) c.packets_move.new.run_state.core c.packets_move.new.run_state.network)
    (state_of (records c.pump.new.run_state.units) c.pump.new.run_state.core c.pump.new.run_state.network) c.in-Err-pump.cause c.in-Ok.ensures.gives
    c.in-Err-pump.ensures.gives

pub returns-clause-gives : goal.returns-clause-gives
unfolding round
returns-clause-gives g c =
    let world = unit_world g.C.MessageCodec.codec g.U.Units.answer in
    let records = g.U.Units.records in
    let s = state_of (records c.args.run_state.now.units) c.args.run_state.now.core c.args.run_state.now.network in
    all_three (packets_move world s) (pump world) (tick world) c.args.lines.now c.packets_move.new.lines c.pump.new.lines c.tick.new.lines
    (state_of (records c.packets_move.new.run_state.units) c.packets_move.new.run_state.core c.packets_move.new.run_state.network)
    (state_of (records c.pump.new.run_state.units) c.pump.new.run_state.core c.pump.new.run_state.network)
    (state_of (records c.tick.new.run_state.units) c.tick.new.run_state.core c.tick.new.run_state.network) c.tick.result c.in-Ok.ensures.gives
    c.in-Ok-pump.ensures.gives c.tick.ensures.gives
