use Rattle.std.proofs.Common.{◌++◌, [], ◌∷◌, ◌∙◌, ap}
use Rattle.scenario_text.specs.declared.line.OutLine.{OutLine}
use Rattle.run_defs.specs.Settling.{ask_lines}
use Rattle.run_defs.specs.UnitRuns.{unit_world}
use Rattle.run_links.specs.Networks.{state_of}
use Rattle.world.specs.settling.Rounds.{end_line}
use Rattle.world.proofs.settling.Ends.{prints_all}
use Rattle.world.proofs.settling.settle.end.Goals as goal

pub returns : goal.returns
returns g c =
    let world = unit_world g.C.MessageCodec.codec g.U.Units.answer in
    let s = state_of (g.U.Units.records c.args.run_state.now.units) c.args.run_state.now.core c.args.run_state.now.network in
    prints_all c.args.lines.now c.push.new.self c.print_quiet.new.lines (end_line c.args.rounds c.args.quiet) (ask_lines world s) s
    (c.in_ok-push.ensures.ok ∙ ap (λ (l : OutLine). c.args.lines.now ++ l ∷ []) c.end_line.ensures) (c.in_ok-print_quiet.ensures world)
