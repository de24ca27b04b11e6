use Rattle.std.proofs.Common.{◌≡◌, ◌+◌, None, map, drop}
use Rattle.run_defs.specs.UnitRuns.{unit_world}
use Rattle.run_links.specs.Networks.{state_of}
use Rattle.command_run.specs.generate.inside.Moments.{event_at}
use Rattle.command_run.specs.generate.inside.Passing.{run_at}
use Rattle.command_run.proofs.generate.Turned.{Continues}
use Rattle.command_run.proofs.generate.run.GeneratedRun.pass_all.Given as goal

-- so many moments have passed, and the rest follows from here
abbrev pub invariant-loop-moment : goal.invariant-loop-moment
invariant-loop-moment g l = record {
  ready : g.U.Units.ready l.self.world.run_state.units;
  going : l.self.world.stop ≡ None;
  line : l.self.line ≡ l.initial.self.line + l.moment-index;
  rest : Continues (unit_world g.C.MessageCodec.codec g.U.Units.answer) (map (event_at l.place) l.moments)
      (run_at (record { state = state_of (g.U.Units.records l.initial.self.world.run_state.units) l.initial.self.world.run_state.core l.initial.self.world.run_state.network; stop = l.initial.self.world.stop }) l.initial.self.line)
      (map (event_at l.place) (drop l.moment-index l.moments))
      (run_at (record { state = state_of (g.U.Units.records l.self.world.run_state.units) l.self.world.run_state.core l.self.world.run_state.network; stop = l.self.world.stop }) l.self.line);
}
