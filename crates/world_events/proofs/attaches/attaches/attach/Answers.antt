use Rattle.run_defs.specs.UnitRuns.{unit_world}
use Rattle.run_links.specs.Networks.{state_of}
use Rattle.world_events.proofs.attaches.Begun.{attach_refuses, attach_moves, attach_stops}
use Rattle.world_events.proofs.attaches.attaches.attach.Goals as goal

pub returns-in-Some-clause-gives : goal.returns-in-Some-clause-gives
returns-in-Some-clause-gives g c =
    attach_refuses (unit_world g.C.MessageCodec.codec g.U.Units.answer) c.args.plan
    (state_of (g.U.Units.records c.args.run_state.now.units) c.args.run_state.now.core c.args.run_state.now.network) c.in-Some.reason c.args.lines.now c.push.new.self
    c.in-Some.ensures c.in_ok-push.ensures.ok

pub returns-in-Err-clause-gives : goal.returns-in-Err-clause-gives
returns-in-Err-clause-gives g c =
    attach_stops (unit_world g.C.MessageCodec.codec g.U.Units.answer) c.args.plan
    (state_of (g.U.Units.records c.args.run_state.now.units) c.args.run_state.now.core c.args.run_state.now.network)
    (state_of (g.U.Units.records c.bring.new.run_state.units) c.bring.new.run_state.core c.bring.new.run_state.network) c.in-Err.cause
    c.args.lines.now c.bring.new.lines c.in_default.ensures c.in-Err.ensures.gives

pub returns-clause-gives : goal.returns-clause-gives
returns-clause-gives g c =
    attach_moves (unit_world g.C.MessageCodec.codec g.U.Units.answer) c.args.plan
    (state_of (g.U.Units.records c.args.run_state.now.units) c.args.run_state.now.core c.args.run_state.now.network)
    (state_of (g.U.Units.records c.bring.new.run_state.units) c.bring.new.run_state.core c.bring.new.run_state.network) c.in-Ok.moved
    c.args.lines.now c.bring.new.lines c.show_refused.new.lines c.in_default.ensures c.in-Ok.ensures.gives c.in_ok-show_refused.ensures
