use Rattle.std.proofs.Common.{◌-◌}
use Rattle.links.specs.Tunnels.{next_entry}
use Rattle.run_defs.specs.Settling.{tunnels_from, all_tunnels}
use Rattle.run_defs.specs.UnitRuns.{unit_world}
use Rattle.run_links.specs.Networks.{state_of}
use Rattle.world.specs.turns.Turns.{Continues}
use Rattle.world.proofs.turns.tunnels.all_tunnels.Given as goal

abbrev pub invariant-loop : goal.invariant-loop
invariant-loop g l = record {
  ready : g.U.Units.ready l.run_state.units;
  rest : Continues l.fn.lines
      (all_tunnels (unit_world g.C.MessageCodec.codec g.U.Units.answer) (state_of (g.U.Units.records l.fn.run_state.units) l.fn.run_state.core l.fn.run_state.network))
      l.lines
      (tunnels_from (unit_world g.C.MessageCodec.codec g.U.Units.answer) (34359738368 - l.counter) (state_of (g.U.Units.records l.run_state.units) l.run_state.core l.run_state.network)
      (next_entry l.run_state.network.tunnels.tunnels l.place));
}
