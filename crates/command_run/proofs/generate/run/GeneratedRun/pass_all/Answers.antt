use Rattle.std.proofs.Common.{◌+◌, map, drop, get_or, arith}
use Rattle.run_defs.specs.UnitRuns.{unit_world}
use Rattle.run_links.specs.Networks.{state_of}
use Rattle.command_run.specs.declared.generate.script.Moment.TheVariants.{Offer}
use Rattle.command_run.specs.generate.inside.Moments.{event_at}
use Rattle.command_run.specs.generate.inside.Passing.{run_at}
use Rattle.command_run.proofs.generate.Turned.{first_of, none_of, one_moment, moment_stops, moments_end}
use Rattle.command_run.proofs.generate.run.GeneratedRun.pass_all.Goals as goal

pub loop-moment-preserved : goal.loop-moment-preserved
loop-moment-preserved g c =
    let world = unit_world g.C.MessageCodec.codec g.U.Units.answer in
    record {
      ready = c.in-Ok.ensures.ready;
      going = c.in-Ok.ensures.follows.1;
      line = omega (arith, c.in-Ok.ensures.follows.2, c.loop-moment.invariant.line);
      rest = one_moment world c.args.place (map (event_at c.args.place) c.args.moments.now)
          (run_at (record { state = state_of (g.U.Units.records c.args.self.now.world.run_state.units) c.args.self.now.world.run_state.core c.args.self.now.world.run_state.network; stop = c.args.self.now.world.stop }) c.args.self.now.line)
          (run_at (record { state = state_of (g.U.Units.records c.loop-moment.self.world.run_state.units) c.loop-moment.self.world.run_state.core c.loop-moment.self.world.run_state.network; stop = c.loop-moment.self.world.stop }) c.loop-moment.self.line)
          (drop c.loop-moment.moment-index c.args.moments.now) c.loop-moment.invariant.rest
          (get_or c.args.moments.now c.loop-moment.moment-index Offer) (drop (c.loop-moment.moment-index + 1) c.args.moments.now)
          (run_at (record { state = state_of (g.U.Units.records c.pass.new.self.world.run_state.units) c.pass.new.self.world.run_state.core c.pass.new.self.world.run_state.network; stop = c.pass.new.self.world.stop }) c.pass.new.self.line)
          (first_of c.args.moments.now c.loop-moment.moment-index (omega arith)) c.in-Ok.ensures.follows;
    }

pub returns-in-Err-clause-follows : goal.returns-in-Err-clause-follows
returns-in-Err-clause-follows g c =
    let world = unit_world g.C.MessageCodec.codec g.U.Units.answer in
    moment_stops world c.args.place (map (event_at c.args.place) c.args.moments.now)
    (run_at (record { state = state_of (g.U.Units.records c.args.self.now.world.run_state.units) c.args.self.now.world.run_state.core c.args.self.now.world.run_state.network; stop = c.args.self.now.world.stop }) c.args.self.now.line)
    (run_at (record { state = state_of (g.U.Units.records c.loop-moment.self.world.run_state.units) c.loop-moment.self.world.run_state.core c.loop-moment.self.world.run_state.network; stop = c.loop-moment.self.world.stop }) c.loop-moment.self.line)
    (drop c.loop-moment.moment-index c.args.moments.now) c.loop-moment.invariant.rest
    (get_or c.args.moments.now c.loop-moment.moment-index Offer) (drop (c.loop-moment.moment-index + 1) c.args.moments.now)
    (run_at (record { state = state_of (g.U.Units.records c.pass.new.self.world.run_state.units) c.pass.new.self.world.run_state.core c.pass.new.self.world.run_state.network; stop = c.pass.new.self.world.stop }) c.pass.new.self.line)
    c.in-Err.cause (first_of c.args.moments.now c.loop-moment.moment-index (omega arith)) c.in-Err.ensures.follows

pub returns-clause-follows : goal.returns-clause-follows
returns-clause-follows g c =
    let world = unit_world g.C.MessageCodec.codec g.U.Units.answer in
    moments_end world c.args.place (map (event_at c.args.place) c.args.moments.now)
    (run_at (record { state = state_of (g.U.Units.records c.args.self.now.world.run_state.units) c.args.self.now.world.run_state.core c.args.self.now.world.run_state.network; stop = c.args.self.now.world.stop }) c.args.self.now.line)
    (run_at (record { state = state_of (g.U.Units.records c.loop-moment.self.world.run_state.units) c.loop-moment.self.world.run_state.core c.loop-moment.self.world.run_state.network; stop = c.loop-moment.self.world.stop }) c.loop-moment.self.line)
    (drop c.loop-moment.moment-index c.args.moments.now) c.loop-moment.invariant.rest
    (none_of c.args.moments.now c.loop-moment.moment-index (omega arith)) c.loop-moment.invariant.going
