use Rattle.std.proofs.Common.{ℕ, ◌+◌, ◌-◌, Option, subst, arith}
use Rattle.std.specs.Prelude.{Ok, Err}
use Rattle.run_defs.specs.Settling.{turn_step, turn_times}
use Rattle.run_defs.specs.UnitRuns.{unit_world}
use Rattle.run_links.specs.Networks.{state_of}
use Rattle.world_steps.specs.Gives.{EventGives}
use Rattle.world_steps.proofs.Following.{nothing_more}
use Rattle.world.specs.declared.radios.turn.Turn.{Turn as Left}
use Rattle.world.specs.radios.RadioTurns.{TurnGives, turn_of, left_of}
use Rattle.world.proofs.turns.Turned.{counted, none_left}
use Rattle.world.proofs.radios.radios.turn_times.Goals as goal

pub loop-preserved : goal.loop-preserved
loop-preserved g c =
    let world = unit_world g.C.MessageCodec.codec g.U.Units.answer in
    let records = g.U.Units.records in
    let s = state_of (records c.loop.run_state.units) c.loop.run_state.core c.loop.run_state.network in
    let t = state_of (records c.turn_step.new.run_state.units) c.turn_step.new.run_state.core c.turn_step.new.run_state.network in
    let again = turn_times world (c.args.times - (c.loop.counter + 1)) in
    let gives =
    subst (λ (x : Option Left). TurnGives c.loop.lines (turn_step world again (turn_of c.loop.left) s) again c.turn_step.new.lines t (left_of (Ok x)))
    c.in-Ok-Some.field-0-is (c.in-Ok-Some.ensures.gives again) in
    record {
      ready = c.in-Ok-Some.ensures.ready;
      rest = λ u lines result k.
          c.loop.invariant.rest u lines result
          (counted (λ (n : ℕ). EventGives c.loop.lines (turn_times world n (turn_of c.loop.left) s) lines u result) c.args.times c.loop.counter (omega arith)
          (gives u lines result k));
    }

pub returns-in-Ok-None-clause-gives : goal.returns-in-Ok-None-clause-gives
returns-in-Ok-None-clause-gives g c =
    let world = unit_world g.C.MessageCodec.codec g.U.Units.answer in
    let records = g.U.Units.records in
    let s = state_of (records c.loop.run_state.units) c.loop.run_state.core c.loop.run_state.network in
    let t = state_of (records c.turn_step.new.run_state.units) c.turn_step.new.run_state.core c.turn_step.new.run_state.network in
    let again = turn_times world (c.args.times - (c.loop.counter + 1)) in
    c.loop.invariant.rest t c.turn_step.new.lines (Ok tt)
    (counted (λ (n : ℕ). EventGives c.loop.lines (turn_times world n (turn_of c.loop.left) s) c.turn_step.new.lines t (Ok tt)) c.args.times c.loop.counter
    (omega arith)
    (subst (λ (x : Option Left). TurnGives c.loop.lines (turn_step world again (turn_of c.loop.left) s) again c.turn_step.new.lines t (left_of (Ok x)))
    c.in-Ok-None.field-0-is (c.in-Ok-None.ensures.gives again)))

pub returns-in-Err-clause-gives : goal.returns-in-Err-clause-gives
returns-in-Err-clause-gives g c =
    let world = unit_world g.C.MessageCodec.codec g.U.Units.answer in
    let records = g.U.Units.records in
    let s = state_of (records c.loop.run_state.units) c.loop.run_state.core c.loop.run_state.network in
    let t = state_of (records c.turn_step.new.run_state.units) c.turn_step.new.run_state.core c.turn_step.new.run_state.network in
    let again = turn_times world (c.args.times - (c.loop.counter + 1)) in
    c.loop.invariant.rest t c.turn_step.new.lines (Err c.in-Err.cause)
    (counted (λ (n : ℕ). EventGives c.loop.lines (turn_times world n (turn_of c.loop.left) s) c.turn_step.new.lines t (Err c.in-Err.cause)) c.args.times
    c.loop.counter (omega arith) (c.in-Err.ensures.gives again))

pub returns-clause-gives : goal.returns-clause-gives
returns-clause-gives g c =
    let world = unit_world g.C.MessageCodec.codec g.U.Units.answer in
    let s = state_of (g.U.Units.records c.loop.run_state.units) c.loop.run_state.core c.loop.run_state.network in
    c.loop.invariant.rest s c.loop.lines (Ok tt)
    (none_left (λ (n : ℕ). EventGives c.loop.lines (turn_times world n (turn_of c.loop.left) s) c.loop.lines s (Ok tt)) c.args.times c.loop.counter
    (omega arith) (nothing_more c.loop.lines s))
