use Rattle.std.proofs.Common.{◌≡◌, ◌≤◌, ◌+◌, ◌-◌, ◌*◌, None}
use Rattle.run_defs.specs.UnitRuns.{unit_world}
use Rattle.run_links.specs.Networks.{state_of}
use Rattle.command_run.specs.generate.Script.{turns_from}
use Rattle.command_run.specs.generate.inside.Passing.{run_at}
use Rattle.command_run.proofs.generate.Turned.{Continues}
use Rattle.command_run.proofs.generate.run.GeneratedRun.turns.Given as goal

-- so many packets had their turns, and the rest follows from here
abbrev pub invariant-loop-packet : goal.invariant-loop-packet
invariant-loop-packet g l = record {
  ready : g.U.Units.ready l.self.world.run_state.units;
  going : l.self.world.stop ≡ None;
  room : l.self.line ≤ 2 + 15 * l.packet;
  rest : Continues (unit_world g.C.MessageCodec.codec g.U.Units.answer) (turns_from 0 l.packets)
      (run_at (record { state = state_of (g.U.Units.records l.initial.self.world.run_state.units) l.initial.self.world.run_state.core l.initial.self.world.run_state.network; stop = l.initial.self.world.stop }) l.initial.self.line)
      (turns_from l.packet (l.packets - l.packet))
      (run_at (record { state = state_of (g.U.Units.records l.self.world.run_state.units) l.self.world.run_state.core l.self.world.run_state.network; stop = l.self.world.stop }) l.self.line);
}
