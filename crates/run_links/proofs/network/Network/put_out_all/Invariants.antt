use Rattle.std.proofs.Common.{◌≤◌, ◌+◌, List, length, map}
use Rattle.std.specs.Vec.Iter.{into_iter_items}
use Rattle.scenario_text.specs.declared.line.OutLine.{OutLine}
use Rattle.transport_defs.specs.Links.{most_control_messages}
use Rattle.run_defs.specs.Steps.{put_out_all}
use Rattle.run_defs.specs.UnitRuns.{put_of}
use Rattle.run_links.specs.declared.network.Network.{Network}
use Rattle.run_links.specs.Networks.{control_messages_in}
use Rattle.run_links.specs.Told.{Makes}
use Rattle.run_links.proofs.network.Network.put_out_all.Given as goal

abbrev pub invariant-loop-output : goal.invariant-loop-output
invariant-loop-output l = record {
  room : length l.self.bag.control_messages + control_messages_in (into_iter_items l.output-iterator) ≤ most_control_messages;
  rest : (new : Network) (lines : List OutLine)
      → Makes (λ world. put_out_all world l.node l.taken (map put_of (into_iter_items l.output-iterator))) l.self new l.lines lines
      → Makes (λ world. put_out_all world l.node l.taken (map put_of (into_iter_items l.initial.output-iterator))) l.initial.self new
      l.initial.lines lines;
}
