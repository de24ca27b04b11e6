use Rattle.std.proofs.Common.{refl}
use Rattle.run_defs.specs.UnitRuns.{unit_world}
use Rattle.run_links.specs.Networks.{state_of}
use Rattle.world_steps.proofs.control_messages.Pumping.{pumps}
use Rattle.world_steps.proofs.control_messages.pumps.pump.Goals as goal

pub returns-clause-gives : goal.returns-clause-gives
returns-clause-gives g c =
    let records = g.U.Units.records in
    pumps (unit_world g.C.MessageCodec.codec g.U.Units.answer) 1000
    (state_of (records c.args.run_state.now.units) c.args.run_state.now.core c.args.run_state.now.network)
    (state_of (records c.pump_times.new.run_state.units) c.pump_times.new.run_state.core c.pump_times.new.run_state.network) c.args.lines.now
    c.pump_times.new.lines c.pump_times.result refl c.pump_times.ensures.gives
