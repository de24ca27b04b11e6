use Rattle.std.proofs.Common.{refl, subst, sym}
use Rattle.std.specs.Prelude.{Err}
use Rattle.run_defs.specs.UnitRuns.{stepped_by, unit_world}
use Rattle.run_links.specs.Networks.{state_of}
use Rattle.world_steps.specs.declared.cause.Cause.{Cause}
use Rattle.world_steps.specs.Asks.{ComesOf}
use Rattle.world_steps.proofs.Does.{comes_of_error, comes_of_outputs}
use Rattle.world_steps.proofs.run_state.RunState.ask.Goals as goal

pub returns-in-Err-clause-came : goal.returns-in-Err-clause-came
returns-in-Err-clause-came g c =
    let world = unit_world g.C.MessageCodec.codec g.U.Units.answer in
    let records = g.U.Units.records in
    let s = state_of (records c.args.self.now.units) c.args.self.now.core c.args.self.now.network in
    let answer = g.U.Units.answer (records c.args.self.now.units) c.args.node c.args.input in
    subst (λ (x : Cause). ComesOf (record { world = world; state = s; node = c.args.node; stepped = stepped_by answer }) (records c.step.new.self) (Err x))
    (sym c.cause_of.ensures) (comes_of_error world s c.args.node answer (records c.step.new.self) c.in-Err.error c.in-Err.ensures.gives)

pub returns-in-Ok-clause-came : goal.returns-in-Ok-clause-came
returns-in-Ok-clause-came g c =
    let world = unit_world g.C.MessageCodec.codec g.U.Units.answer in
    let records = g.U.Units.records in
    let s = state_of (records c.args.self.now.units) c.args.self.now.core c.args.self.now.network in
    comes_of_outputs world g.U.Units.answer s c.args.node c.args.input c.in-Ok.outputs (records c.step.new.self) _ c.too_many_control_messages-room.result
    c.sorted.result (g.met.U.Units.leaves c.args.self.now.units c.requires.ready) c.requires.there c.in-Ok.ensures.gives
    (c.too_many_control_messages-room.ensures world (records c.args.self.now.units) c.args.self.now.core) refl c.sorted.ensures
