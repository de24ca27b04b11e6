use Rattle.std.proofs.Common.{◌+◌, refl}
use Rattle.run_defs.specs.UnitRuns.{unit_world}
use Rattle.run_links.specs.Networks.{state_of}
use Rattle.command_run.proofs.generate.Applied.{goes_one, stops_one}
use Rattle.command_run.proofs.generate.run.GeneratedRun.apply.Goals as goal

pub returns-in-Ok-clause-follows : goal.returns-in-Ok-clause-follows
returns-in-Ok-clause-follows g c =
    let world = unit_world g.C.MessageCodec.codec g.U.Units.answer in
    goes_one world c.args.event (record { state = state_of (g.U.Units.records c.args.self.now.world.run_state.units) c.args.self.now.world.run_state.core c.args.self.now.world.run_state.network; stop = c.args.self.now.world.stop })
    (record { state = state_of (g.U.Units.records c.apply-answer.new.self.run_state.units) c.apply-answer.new.self.run_state.core c.apply-answer.new.self.run_state.network; stop = c.apply-answer.new.self.stop })
    c.args.self.now.line (c.args.self.now.line + 1) c.in-Ok.lines c.requires.going refl c.in-Ok.ensures.applies

pub returns-in-Err-clause-follows : goal.returns-in-Err-clause-follows
returns-in-Err-clause-follows g c =
    let world = unit_world g.C.MessageCodec.codec g.U.Units.answer in
    stops_one world c.args.event (record { state = state_of (g.U.Units.records c.args.self.now.world.run_state.units) c.args.self.now.world.run_state.core c.args.self.now.world.run_state.network; stop = c.args.self.now.world.stop })
    (record { state = state_of (g.U.Units.records c.apply-answer.new.self.run_state.units) c.apply-answer.new.self.run_state.core c.apply-answer.new.self.run_state.network; stop = c.apply-answer.new.self.stop })
    c.args.self.now.line (c.args.self.now.line + 1) c.in-Err.stop c.cause_in.result c.requires.going refl c.cause_in.ensures c.in-Err.ensures.applies
