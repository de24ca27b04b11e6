use Rattle.std.proofs.Common.{◌≡◌, ℕ, ◌+◌, ◌-◌, false, sym, ◌∙◌, subst, arith}
use Rattle.std.specs.Prelude.{Err}
use Rattle.run_defs.specs.Settling.{all_quiet, rounds_from}
use Rattle.run_defs.specs.UnitRuns.{unit_world}
use Rattle.run_links.specs.Networks.{state_of}
use Rattle.world_steps.specs.Gives.{EventGives}
use Rattle.world.proofs.turns.Turned.{counted, none_left}
use Rattle.world.proofs.settling.Ends.{quiet_now, one_round, round_stops}
use Rattle.world.proofs.settling.settle.rounds_from.Goals as goal

pub loop-rounds-preserved : goal.loop-rounds-preserved
loop-rounds-preserved g c =
    let world = unit_world g.C.MessageCodec.codec g.U.Units.answer in
    let records = g.U.Units.records in
    let l = c.loop-rounds in
    let s = state_of (records l.run_state.units) l.run_state.core l.run_state.network in
    let t = state_of (records c.round.new.run_state.units) c.round.new.run_state.core c.round.new.run_state.network in
    let busy : false ≡ all_quiet world s = sym c.if-quiet.false ∙ c.in_ok-quiet.ensures world in
    record {
      ready = c.in-Ok.ensures.ready;
      rest = λ u lines result k.
          l.invariant.rest u lines result
          (counted (λ (n : ℕ). EventGives l.lines (rounds_from world l.rounds n s) lines u result) c.args.limit l.rounds (omega arith)
          (one_round world l.rounds (c.args.limit - (l.rounds + 1)) s t l.lines c.round.new.lines busy c.in-Ok.ensures.gives u lines result k));
    }

pub returns-then-quiet-clause-gives : goal.returns-then-quiet-clause-gives
returns-then-quiet-clause-gives g c =
    let world = unit_world g.C.MessageCodec.codec g.U.Units.answer in
    let l = c.loop-rounds in
    let s = state_of (g.U.Units.records l.run_state.units) l.run_state.core l.run_state.network in
    l.invariant.rest s c.end.new.lines c.end.result
    (counted (λ (n : ℕ). EventGives l.lines (rounds_from world l.rounds n s) c.end.new.lines s c.end.result) c.args.limit l.rounds (omega arith)
    (quiet_now world l.rounds (c.args.limit - (l.rounds + 1)) s l.lines c.end.new.lines c.end.result
    (sym c.if-quiet.true ∙ c.in_ok-quiet.ensures world) c.end.ensures))

pub returns-in-Err-clause-gives : goal.returns-in-Err-clause-gives
returns-in-Err-clause-gives g c =
    let world = unit_world g.C.MessageCodec.codec g.U.Units.answer in
    let records = g.U.Units.records in
    let l = c.loop-rounds in
    let s = state_of (records l.run_state.units) l.run_state.core l.run_state.network in
    let t = state_of (records c.round.new.run_state.units) c.round.new.run_state.core c.round.new.run_state.network in
    let busy : false ≡ all_quiet world s = sym c.if-quiet.false ∙ c.in_ok-quiet.ensures world in
    l.invariant.rest t c.round.new.lines (Err c.in-Err.cause)
    (counted (λ (n : ℕ). EventGives l.lines (rounds_from world l.rounds n s) c.round.new.lines t (Err c.in-Err.cause)) c.args.limit l.rounds (omega arith)
    (round_stops world l.rounds (c.args.limit - (l.rounds + 1)) s t l.lines c.round.new.lines c.in-Err.cause busy c.in-Err.ensures.gives))

pub returns-clause-gives : goal.returns-clause-gives
returns-clause-gives g c =
    let world = unit_world g.C.MessageCodec.codec g.U.Units.answer in
    let l = c.loop-rounds in
    let s = state_of (g.U.Units.records l.run_state.units) l.run_state.core l.run_state.network in
    let all_made : c.args.limit ≡ l.rounds = omega arith in
    l.invariant.rest s c.end_at_limit.new.lines c.end_at_limit.result
    (none_left (λ (n : ℕ). EventGives l.lines (rounds_from world l.rounds n s) c.end_at_limit.new.lines s c.end_at_limit.result) c.args.limit l.rounds
    (omega arith)
    (subst (λ (n : ℕ). EventGives l.lines (rounds_from world n 0 s) c.end_at_limit.new.lines s c.end_at_limit.result) all_made c.end_at_limit.ensures))
