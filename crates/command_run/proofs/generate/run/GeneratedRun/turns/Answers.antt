use Rattle.std.proofs.Common.{arith}
use Rattle.run_defs.specs.UnitRuns.{unit_world}
use Rattle.run_links.specs.Networks.{state_of}
use Rattle.command_run.specs.generate.Script.{turns_from}
use Rattle.command_run.specs.generate.inside.Passing.{run_at}
use Rattle.command_run.proofs.generate.Turned.{one_turn, last_turn, asks}
use Rattle.command_run.proofs.generate.run.GeneratedRun.turns.Goals as goal

pub loop-packet-preserved : goal.loop-packet-preserved
loop-packet-preserved g c =
    let world = unit_world g.C.MessageCodec.codec g.U.Units.answer in
    record {
      ready = c.in-Ok.ensures.ready;
      going = c.in-Ok.ensures.follows.1;
      room = c.in-Ok.ensures.room;
      rest = one_turn world (turns_from 0 c.args.packets)
          (run_at (record { state = state_of (g.U.Units.records c.args.self.now.world.run_state.units) c.args.self.now.world.run_state.core c.args.self.now.world.run_state.network; stop = c.args.self.now.world.stop }) c.args.self.now.line)
          (run_at (record { state = state_of (g.U.Units.records c.loop-packet.self.world.run_state.units) c.loop-packet.self.world.run_state.core c.loop-packet.self.world.run_state.network; stop = c.loop-packet.self.world.stop }) c.loop-packet.self.line)
          c.args.packets c.loop-packet.packet c.loop-packet.invariant.rest
          (run_at (record { state = state_of (g.U.Units.records c.turn.new.self.world.run_state.units) c.turn.new.self.world.run_state.core c.turn.new.self.world.run_state.network; stop = c.turn.new.self.world.stop }) c.turn.new.self.line)
          (omega arith) c.in-Ok.ensures.follows;
    }

pub returns-in-Err : goal.returns-in-Err
returns-in-Err g c =
    let world = unit_world g.C.MessageCodec.codec g.U.Units.answer in
    last_turn world (turns_from 0 c.args.packets)
    (run_at (record { state = state_of (g.U.Units.records c.args.self.now.world.run_state.units) c.args.self.now.world.run_state.core c.args.self.now.world.run_state.network; stop = c.args.self.now.world.stop }) c.args.self.now.line)
    (run_at (record { state = state_of (g.U.Units.records c.loop-packet.self.world.run_state.units) c.loop-packet.self.world.run_state.core c.loop-packet.self.world.run_state.network; stop = c.loop-packet.self.world.stop }) c.loop-packet.self.line)
    c.args.packets c.loop-packet.packet c.loop-packet.invariant.rest
    (run_at (record { state = state_of (g.U.Units.records c.turn.new.self.world.run_state.units) c.turn.new.self.world.run_state.core c.turn.new.self.world.run_state.network; stop = c.turn.new.self.world.stop }) c.turn.new.self.line)
    c.in-Err.cause (omega arith) c.in-Err.ensures.follows

pub returns : goal.returns
returns g c =
    let world = unit_world g.C.MessageCodec.codec g.U.Units.answer in
    asks world (turns_from 0 c.args.packets)
    (run_at (record { state = state_of (g.U.Units.records c.args.self.now.world.run_state.units) c.args.self.now.world.run_state.core c.args.self.now.world.run_state.network; stop = c.args.self.now.world.stop }) c.args.self.now.line)
    (run_at (record { state = state_of (g.U.Units.records c.loop-packet.self.world.run_state.units) c.loop-packet.self.world.run_state.core c.loop-packet.self.world.run_state.network; stop = c.loop-packet.self.world.stop }) c.loop-packet.self.line)
    c.args.packets c.loop-packet.packet c.loop-packet.invariant.rest
    (run_at (record { state = state_of (g.U.Units.records c.apply.new.self.world.run_state.units) c.apply.new.self.world.run_state.core c.apply.new.self.world.run_state.network; stop = c.apply.new.self.world.stop }) c.apply.new.self.line)
    c.apply.result (omega arith) c.apply.ensures.follows
