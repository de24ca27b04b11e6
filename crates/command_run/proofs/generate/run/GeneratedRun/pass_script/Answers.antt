use Rattle.std.proofs.Common.{[], ◌∷◌}
use Rattle.scenario_text.specs.declared.event.Event.TheVariants.{Static}
use Rattle.run_defs.specs.UnitRuns.{unit_world}
use Rattle.run_links.specs.Networks.{state_of}
use Rattle.command_run.specs.generate.Script.{plan, turns_from}
use Rattle.command_run.specs.generate.inside.Passing.{run_at}
use Rattle.command_run.proofs.generate.Passed.{then_follows, stops_first}
use Rattle.command_run.proofs.generate.run.GeneratedRun.pass_script.Goals as goal

pub returns-in-Ok : goal.returns-in-Ok
returns-in-Ok g c =
    then_follows (unit_world g.C.MessageCodec.codec g.U.Units.answer) (Static plan ∷ []) (turns_from 0 c.args.packets)
    (run_at (record { state = state_of (g.U.Units.records c.args.self.now.world.run_state.units) c.args.self.now.world.run_state.core c.args.self.now.world.run_state.network; stop = c.args.self.now.world.stop }) c.args.self.now.line)
    (run_at (record { state = state_of (g.U.Units.records c.apply.new.self.world.run_state.units) c.apply.new.self.world.run_state.core c.apply.new.self.world.run_state.network; stop = c.apply.new.self.world.stop }) c.apply.new.self.line)
    (run_at (record { state = state_of (g.U.Units.records c.turns.new.self.world.run_state.units) c.turns.new.self.world.run_state.core c.turns.new.self.world.run_state.network; stop = c.turns.new.self.world.stop }) c.turns.new.self.line)
    c.turns.result c.in-Ok.ensures.follows c.turns.ensures

pub returns-in-Err : goal.returns-in-Err
returns-in-Err g c =
    stops_first (unit_world g.C.MessageCodec.codec g.U.Units.answer) (Static plan ∷ []) (turns_from 0 c.args.packets)
    (run_at (record { state = state_of (g.U.Units.records c.args.self.now.world.run_state.units) c.args.self.now.world.run_state.core c.args.self.now.world.run_state.network; stop = c.args.self.now.world.stop }) c.args.self.now.line)
    (run_at (record { state = state_of (g.U.Units.records c.apply.new.self.world.run_state.units) c.apply.new.self.world.run_state.core c.apply.new.self.world.run_state.network; stop = c.apply.new.self.world.stop }) c.apply.new.self.line)
    c.in-Err.cause c.in-Err.ensures.follows
