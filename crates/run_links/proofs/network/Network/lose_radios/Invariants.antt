use Rattle.std.proofs.Common.{◌≡◌, List, length}
use Rattle.scenario_text.specs.declared.line.OutLine.{OutLine}
use Rattle.run_defs.specs.Steps.{radios_of, lose_each}
use Rattle.run_links.specs.declared.network.Network.{Network}
use Rattle.run_links.specs.Told.{Makes}
use Rattle.run_links.proofs.network.Network.lose_radios.Given as goal

abbrev pub invariant-loop-key : goal.invariant-loop-key
invariant-loop-key l = record {
  bag : l.self.bag ≡ l.initial.self.bag;
  rest : (new : Network) (lines : List OutLine)
      → Makes (λ world. lose_each world l.epoch (radios_of world l.ue l.self.radios.radios)) l.self new l.lines lines
      → Makes (λ world. lose_each world l.epoch (radios_of world l.ue l.initial.self.radios.radios)) l.initial.self new l.initial.lines lines;
}

abbrev pub decreases-loop-key : goal.decreases-loop-key
decreases-loop-key l = length l.self.radios.radios
