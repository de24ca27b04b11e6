use Rattle.run_defs.specs.UnitRuns.{unit_world}
use Rattle.run_links.specs.Networks.{state_of}
use Rattle.world.specs.radios.RadioTurns.{turn_of, left_of}
use Rattle.world.proofs.radios.OnRadios.{not_ready, turn_airs, turn_acks}
use Rattle.world.proofs.radios.radios.turn_step.Goals as goal

pub returns-in_default-clause-gives : goal.returns-in_default-clause-gives
returns-in_default-clause-gives g c again =
    let world = unit_world g.C.MessageCodec.codec g.U.Units.answer in
    let s = state_of (g.U.Units.records c.args.run_state.now.units) c.args.run_state.now.core c.args.run_state.now.network in
    not_ready world again (turn_of c.args.turn) s c.args.lines.now c.in_default.ensures

pub returns-then-turn-clause-gives : goal.returns-then-turn-clause-gives
returns-then-turn-clause-gives g c again =
    let world = unit_world g.C.MessageCodec.codec g.U.Units.answer in
    let records = g.U.Units.records in
    let s = state_of (records c.args.run_state.now.units) c.args.run_state.now.core c.args.run_state.now.network in
    let t = state_of (records c.air_next.new.run_state.units) c.air_next.new.run_state.core c.air_next.new.run_state.network in
    turn_airs world again (turn_of c.args.turn) s c.in-Some.home t c.args.lines.now c.air_next.new.lines (left_of c.air_next.result) c.in-Some.ensures c.if-turn.true
    (c.air_next.ensures.gives again)

pub returns-else-turn-clause-gives : goal.returns-else-turn-clause-gives
returns-else-turn-clause-gives g c again =
    let world = unit_world g.C.MessageCodec.codec g.U.Units.answer in
    let records = g.U.Units.records in
    let s = state_of (records c.args.run_state.now.units) c.args.run_state.now.core c.args.run_state.now.network in
    let t = state_of (records c.ack_next.new.run_state.units) c.ack_next.new.run_state.core c.ack_next.new.run_state.network in
    turn_acks world again (turn_of c.args.turn) s c.in-Some.home t c.args.lines.now c.ack_next.new.lines (left_of c.ack_next.result) c.in-Some.ensures c.if-turn.false
    (c.ack_next.ensures.gives again)
