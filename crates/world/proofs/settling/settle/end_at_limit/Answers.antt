use Rattle.run_defs.specs.UnitRuns.{unit_world}
use Rattle.run_links.specs.Networks.{state_of}
use Rattle.world.proofs.settling.Ends.{last_round}
use Rattle.world.proofs.settling.settle.end_at_limit.Goals as goal

pub returns : goal.returns
returns g c =
    let world = unit_world g.C.MessageCodec.codec g.U.Units.answer in
    last_round world c.args.rounds c.in_ok-quiet.quiet
    (state_of (g.U.Units.records c.args.run_state.now.units) c.args.run_state.now.core c.args.run_state.now.network)
    c.args.lines.now c.end.new.lines c.end.result (c.in_ok-quiet.ensures world) c.end.ensures
