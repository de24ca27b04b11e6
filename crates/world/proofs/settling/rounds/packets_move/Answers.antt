use Rattle.run_defs.specs.Settling.{attached_entities, attached_bearers, all_radios, poll_each}
use Rattle.world.specs.settling.Rounds.{opening}
use Rattle.run_defs.specs.UnitRuns.{unit_world}
use Rattle.run_links.specs.Networks.{OctetState, state_of}
use Rattle.world.proofs.settling.Three.{stops_first, stops_second, all_three}
use Rattle.world.proofs.settling.rounds.packets_move.Goals as goal

pub returns-in-Err-clause-gives : goal.returns-in-Err-clause-gives
returns-in-Err-clause-gives g c =
    let world = unit_world g.C.MessageCodec.codec g.U.Units.answer in
    let records = g.U.Units.records in
    let s = state_of (records c.args.run_state.now.units) c.args.run_state.now.core c.args.run_state.now.network in
    stops_first (opening world s) (λ (t : OctetState). all_radios world (attached_entities t) t)
    (λ (t : OctetState). poll_each world (attached_bearers t) t) c.args.lines.now c.opening.new.lines
    (state_of (records c.opening.new.run_state.units) c.opening.new.run_state.core c.opening.new.run_state.network) c.in-Err.cause c.in-Err.ensures.gives

pub returns-in-Err-all_radios-clause-gives : goal.returns-in-Err-all_radios-clause-gives
returns-in-Err-all_radios-clause-gives g c =
    let world = unit_world g.C.MessageCodec.codec g.U.Units.answer in
    let records = g.U.Units.records in
    let s = state_of (records c.args.run_state.now.units) c.args.run_state.now.core c.args.run_state.now.network in
    stops_second (opening world s) (λ (t : OctetState). all_radios world (attached_entities t) t)
    (λ (t : OctetState). poll_each world (attached_bearers t) t) c.args.lines.now c.opening.new.lines c.all_radios.new.lines
    (state_of (records c.opening.new.run_state.units) c.opening.new.run_state.core c.opening.new.run_state.network)
    (state_of (records c.all_radios.new.run_state.units) c.all_radios.new.run_state.core c.all_radios.new.run_state.network) c.in-Err-all_radios.cause
    c.in-Ok.ensures.gives c.in-Err-all_radios.ensures.gives

pub returns-clause-gives : goal.returns-clause-gives
returns-clause-gives g c =
    let world = unit_world g.C.MessageCodec.codec g.U.Units.answer in
    let records = g.U.Units.records in
    let s = state_of (records c.args.run_state.now.units) c.args.run_state.now.core c.args.run_state.now.network in
    all_three (opening world s) (λ (t : OctetState). all_radios world (attached_entities t) t)
    (λ (t : OctetState). poll_each world (attached_bearers t) t) c.args.lines.now c.opening.new.lines c.all_radios.new.lines
    c.poll_each.new.lines (state_of (records c.opening.new.run_state.units) c.opening.new.run_state.core c.opening.new.run_state.network)
    (state_of (records c.all_radios.new.run_state.units) c.all_radios.new.run_state.core c.all_radios.new.run_state.network)
    (state_of (records c.poll_each.new.run_state.units) c.poll_each.new.run_state.core c.poll_each.new.run_state.network) c.poll_each.result
    c.in-Ok.ensures.gives c.in-Ok-all_radios.ensures.gives c.poll_each.ensures.gives
