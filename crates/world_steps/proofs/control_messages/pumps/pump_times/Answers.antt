use Rattle.std.proofs.Common.{◌≡◌, ◌+◌, ◌-◌, suc, arith}
use Rattle.std.specs.Prelude.{Ok, Err}
use Rattle.run_defs.specs.UnitRuns.{unit_world}
use Rattle.run_links.specs.Networks.{state_of}
use Rattle.world_steps.proofs.control_messages.Pumping.{pumps_none, pumps_no_more, pumps_one, pump_stops}
use Rattle.world_steps.proofs.control_messages.pumps.pump_times.Goals as goal

pub loop-preserved : goal.loop-preserved
loop-preserved g c =
    let records = g.U.Units.records in
    let s = state_of (records c.loop.run_state.units) c.loop.run_state.core c.loop.run_state.network in
    let t = state_of (records c.give.new.run_state.units) c.give.new.run_state.core c.give.new.run_state.network in
    let one : c.args.times - c.loop.counter ≡ suc (c.args.times - (c.loop.counter + 1)) = omega arith in
    record {
      ready = c.in-Ok.ensures.ready;
      rest = λ lines u result h.
          c.loop.invariant.rest lines u result
          (pumps_one (unit_world g.C.MessageCodec.codec g.U.Units.answer) (c.args.times - c.loop.counter) (c.args.times - (c.loop.counter + 1))
          c.in-Some.number s t u c.loop.lines c.give.new.lines lines result one c.in-Some.ensures c.in-Ok.ensures.gives h);
    }

pub returns-in-None-clause-gives : goal.returns-in-None-clause-gives
returns-in-None-clause-gives g c =
    let s = state_of (g.U.Units.records c.loop.run_state.units) c.loop.run_state.core c.loop.run_state.network in
    c.loop.invariant.rest c.loop.lines s (Ok tt)
    (pumps_none (unit_world g.C.MessageCodec.codec g.U.Units.answer) (c.args.times - c.loop.counter) s c.loop.lines c.in-None.ensures)

pub returns-in-Err-clause-gives : goal.returns-in-Err-clause-gives
returns-in-Err-clause-gives g c =
    let records = g.U.Units.records in
    let s = state_of (records c.loop.run_state.units) c.loop.run_state.core c.loop.run_state.network in
    let t = state_of (records c.give.new.run_state.units) c.give.new.run_state.core c.give.new.run_state.network in
    let one : c.args.times - c.loop.counter ≡ suc (c.args.times - (c.loop.counter + 1)) = omega arith in
    c.loop.invariant.rest c.give.new.lines t (Err c.in-Err.cause)
    (pump_stops (unit_world g.C.MessageCodec.codec g.U.Units.answer) (c.args.times - c.loop.counter) (c.args.times - (c.loop.counter + 1))
    c.in-Some.number s t c.loop.lines c.give.new.lines c.in-Err.cause one c.in-Some.ensures c.in-Err.ensures.gives)

pub returns-clause-gives : goal.returns-clause-gives
returns-clause-gives g c =
    let s = state_of (g.U.Units.records c.loop.run_state.units) c.loop.run_state.core c.loop.run_state.network in
    c.loop.invariant.rest c.loop.lines s (Ok tt)
    (pumps_no_more (unit_world g.C.MessageCodec.codec g.U.Units.answer) (c.args.times - c.loop.counter) s c.loop.lines (omega arith))
