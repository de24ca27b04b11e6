use Rattle.std.proofs.Common.{None}
use Rattle.run_defs.specs.States.{goes_on}
use Rattle.run_defs.specs.Steps.{does, step}
use Rattle.run_defs.specs.UnitRuns.{unit_world}
use Rattle.run_links.specs.Networks.{state_of}
use Rattle.world_steps.specs.Gives.{stop_by}
use Rattle.world_steps.proofs.Shown.{shows_refused, refused_stops}
use Rattle.world_steps.proofs.run_state.RunState.step.Goals as goal

pub returns-in-Err-clause-gives : goal.returns-in-Err-clause-gives
unfolding step
returns-in-Err-clause-gives g c given is =
    let world = unit_world g.C.MessageCodec.codec g.U.Units.answer in
    let records = g.U.Units.records in
    let s = state_of (records c.args.self.now.units) c.args.self.now.core c.args.self.now.network in
    let t = state_of (records c.try_step.new.self.units) c.try_step.new.self.core c.try_step.new.self.network in
    refused_stops world s t (does world c.args.node given None goes_on s) (stop_by c.in-Err.cause) c.args.lines.now c.try_step.new.lines
    (c.in-Err.ensures.gives given is)

pub returns-clause-gives : goal.returns-clause-gives
unfolding step
returns-clause-gives g c given is =
    let world = unit_world g.C.MessageCodec.codec g.U.Units.answer in
    let records = g.U.Units.records in
    let s = state_of (records c.args.self.now.units) c.args.self.now.core c.args.self.now.network in
    let t = state_of (records c.try_step.new.self.units) c.try_step.new.self.core c.try_step.new.self.network in
    shows_refused world s t (does world c.args.node given None goes_on s) c.in-Ok.moved c.args.lines.now c.try_step.new.lines c.show_refused.new.lines
    (c.in-Ok.ensures.gives given is) c.in_ok-show_refused.ensures
