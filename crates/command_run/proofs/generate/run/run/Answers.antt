use Rattle.std.proofs.Common.{refl}
use Rattle.std.proofs.lemmas.Result.{IfOk-weaker}
use Rattle.run_links.specs.Networks.{state_of}
use Rattle.command_run.specs.generate.Script.{script}
use Rattle.command_run.specs.generate.inside.Passing.{run_at}
use Rattle.command_run.proofs.generate.Ended.{run_meets}
use Rattle.command_run.proofs.generate.run.run.Goals as goal

pub returns : goal.returns
returns g c =
    IfOk-weaker c.end_at.result _ _
    (λ end is.
    run_meets g.C.MessageCodec.codec g.U.Units.answer (script c.args.packets) c.args.packets
    (run_at (record { state = state_of (g.U.Units.records c.in_ok-world.world.run_state.units) c.in_ok-world.world.run_state.core c.in_ok-world.world.run_state.network; stop = c.in_ok-world.world.stop }) 1)
    (run_at (record { state = state_of (g.U.Units.records c.pass_script-passed.new.self.world.run_state.units) c.pass_script-passed.new.self.world.run_state.core c.pass_script-passed.new.self.world.run_state.network; stop = c.pass_script-passed.new.self.world.stop }) c.pass_script-passed.new.self.line)
    c.pass_script-passed.result end refl c.in_ok-world.ensures.state.0 c.pass_script-passed.ensures is)
    c.end_at.ensures
