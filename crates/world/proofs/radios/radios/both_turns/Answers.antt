use Rattle.gnb_types.specs.declared.names.Dir.TheVariants.{Dl, Ul}
use Rattle.run_defs.specs.States.{entity}
use Rattle.run_defs.specs.UnitRuns.{unit_world}
use Rattle.run_links.specs.Networks.{state_of}
use Rattle.world_steps.proofs.Following.{then_event, first_stops}
use Rattle.world.specs.radios.RadioTurns.{turned}
use Rattle.world.proofs.radios.radios.both_turns.Goals as goal

pub returns-in-Ok-clause-gives : goal.returns-in-Ok-clause-gives
returns-in-Ok-clause-gives g c =
    let world = unit_world g.C.MessageCodec.codec g.U.Units.answer in
    let records = g.U.Units.records in
    let s = state_of (records c.args.run_state.now.units) c.args.run_state.now.core c.args.run_state.now.network in
    let t = state_of (records c.radio_turn.new.run_state.units) c.radio_turn.new.run_state.core c.radio_turn.new.run_state.network in
    let u = state_of (records c.radio_turn-in-Ok.new.run_state.units) c.radio_turn-in-Ok.new.run_state.core c.radio_turn-in-Ok.new.run_state.network in
    then_event (turned world (entity c.args.ue c.args.bearer Dl) s) (turned world (entity c.args.ue c.args.bearer Ul)) c.args.lines.now
    c.radio_turn.new.lines c.radio_turn-in-Ok.new.lines t u c.radio_turn-in-Ok.result c.in-Ok.ensures.gives c.radio_turn-in-Ok.ensures.gives

pub returns-in-Err-clause-gives : goal.returns-in-Err-clause-gives
returns-in-Err-clause-gives g c =
    let world = unit_world g.C.MessageCodec.codec g.U.Units.answer in
    let records = g.U.Units.records in
    let s = state_of (records c.args.run_state.now.units) c.args.run_state.now.core c.args.run_state.now.network in
    let t = state_of (records c.radio_turn.new.run_state.units) c.radio_turn.new.run_state.core c.radio_turn.new.run_state.network in
    first_stops (turned world (entity c.args.ue c.args.bearer Dl) s) (turned world (entity c.args.ue c.args.bearer Ul)) c.args.lines.now
    c.radio_turn.new.lines t t c.in-Err.cause c.in-Err.ensures.gives
