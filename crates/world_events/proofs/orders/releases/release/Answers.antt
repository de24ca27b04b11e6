use Rattle.run_defs.specs.UnitRuns.{unit_world}
use Rattle.run_links.specs.Networks.{state_of}
use Rattle.world_events.proofs.orders.Released.{release_refuses, release_moves, release_stops}
use Rattle.world_events.proofs.orders.releases.release.Goals as goal

pub returns-in-Err-clause-gives : goal.returns-in-Err-clause-gives
returns-in-Err-clause-gives g c =
    release_refuses (unit_world g.C.MessageCodec.codec g.U.Units.answer) c.args.ue
    (state_of (g.U.Units.records c.args.run_state.now.units) c.args.run_state.now.core c.args.run_state.now.network) c.in-Err.reason c.args.lines.now c.push.new.self
    c.in-Err.ensures c.in_ok-push-in-Err.ensures.ok

pub returns-in-Err-let_go-clause-gives : goal.returns-in-Err-let_go-clause-gives
returns-in-Err-let_go-clause-gives g c =
    release_stops (unit_world g.C.MessageCodec.codec g.U.Units.answer) c.args.ue
    (state_of (g.U.Units.records c.args.run_state.now.units) c.args.run_state.now.core c.args.run_state.now.network)
    (state_of (g.U.Units.records c.let_go.new.run_state.units) c.let_go.new.run_state.core c.let_go.new.run_state.network) c.in-Ok.gnb c.in-Err-let_go.cause
    c.args.lines.now c.let_go.new.lines c.in-Ok.ensures c.in-Err-let_go.ensures.gives

pub returns-clause-gives : goal.returns-clause-gives
returns-clause-gives g c =
    release_moves (unit_world g.C.MessageCodec.codec g.U.Units.answer) c.args.ue
    (state_of (g.U.Units.records c.args.run_state.now.units) c.args.run_state.now.core c.args.run_state.now.network)
    (state_of (g.U.Units.records c.let_go.new.run_state.units) c.let_go.new.run_state.core c.let_go.new.run_state.network) c.in-Ok.gnb c.in-Ok-let_go.moved
    c.args.lines.now c.let_go.new.lines c.show_refused.new.lines c.in-Ok.ensures c.in-Ok-let_go.ensures.gives c.in_ok-show_refused.ensures
