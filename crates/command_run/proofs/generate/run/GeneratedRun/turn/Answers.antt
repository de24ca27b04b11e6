use Rattle.std.proofs.Common.{◌==◌, ℕ, ap}
use Rattle.run_defs.specs.UnitRuns.{unit_world}
use Rattle.run_links.specs.Networks.{state_of}
use Rattle.command_run.specs.generate.inside.Passing.{run_at}
use Rattle.command_run.proofs.generate.Turned.{turn_returns, turn_stops}
use Rattle.command_run.proofs.generate.run.GeneratedRun.turn.Goals as goal

pub returns-in-Err-clause-follows : goal.returns-in-Err-clause-follows
returns-in-Err-clause-follows g c =
    turn_stops (unit_world g.C.MessageCodec.codec g.U.Units.answer) c.args.packet
    (run_at (record { state = state_of (g.U.Units.records c.args.self.now.world.run_state.units) c.args.self.now.world.run_state.core c.args.self.now.world.run_state.network; stop = c.args.self.now.world.stop }) c.args.self.now.line)
    (run_at (record { state = state_of (g.U.Units.records c.pass_all.new.self.world.run_state.units) c.pass_all.new.self.world.run_state.core c.pass_all.new.self.world.run_state.network; stop = c.pass_all.new.self.world.stop }) c.pass_all.new.self.line)
    c.in-Err.cause c.in-Err.ensures.follows

pub returns-clause-follows : goal.returns-clause-follows
returns-clause-follows g c =
    turn_returns (unit_world g.C.MessageCodec.codec g.U.Units.answer) c.args.packet
    (run_at (record { state = state_of (g.U.Units.records c.args.self.now.world.run_state.units) c.args.self.now.world.run_state.core c.args.self.now.world.run_state.network; stop = c.args.self.now.world.stop }) c.args.self.now.line)
    (run_at (record { state = state_of (g.U.Units.records c.pass_all.new.self.world.run_state.units) c.pass_all.new.self.world.run_state.core c.pass_all.new.self.world.run_state.network; stop = c.pass_all.new.self.world.stop }) c.pass_all.new.self.line)
    (run_at (record { state = state_of (g.U.Units.records c.pass_all-2.new.self.world.run_state.units) c.pass_all-2.new.self.world.run_state.core c.pass_all-2.new.self.world.run_state.network; stop = c.pass_all-2.new.self.world.stop }) c.pass_all-2.new.self.line)
    c.pass_all-2.result (ap (λ (n : ℕ). n == 0) c.if-packet-ne0.false) c.in-Ok.ensures.follows c.pass_all-2.ensures.follows
