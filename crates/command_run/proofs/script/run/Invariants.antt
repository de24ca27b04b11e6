use Rattle.gnb_base.specs.Reading.{still_to_come}
use Rattle.run_links.specs.Networks.{state_of}
use Rattle.command_defs.specs.Outside.{outside}
use Rattle.command_run.specs.inside.Turns.{run_at}
use Rattle.command_run.proofs.Turned.{SoFar}
use Rattle.command_run.proofs.script.run.Given as goal

-- what was run so far; and the units can be used
abbrev pub invariant-loop-more : goal.invariant-loop-more
invariant-loop-more g l = record {
  ready : g.U.Units.ready l.world.run_state.units;
  so_far : SoFar (record { codec = g.C.MessageCodec.codec; answer = g.U.Units.answer })
      (outside (g.S.Source.at l.fn.input) (g.K.Sink.at l.fn.output))
      (run_at l.reader (g.S.Source.at l.input)
      (record { state = state_of (g.U.Units.records l.world.run_state.units) l.world.run_state.core l.world.run_state.network; stop = l.world.stop })
      (g.K.Sink.at l.output))
      l.events;
}

abbrev pub decreases-loop-more : goal.decreases-loop-more
decreases-loop-more g l = still_to_come l.reader
