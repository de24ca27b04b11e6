use Rattle.std.proofs.Common.{ℕ, ◌+◌, ◌*◌, true, false, subst}
use Rattle.run_defs.specs.Settling.{turn_times}
use Rattle.run_defs.specs.UnitRuns.{unit_world}
use Rattle.run_links.specs.Networks.{state_of}
use Rattle.world.specs.radios.RadioTurns.{turned}
use Rattle.world_steps.specs.Gives.{EventGives}
use Rattle.world.proofs.radios.radios.radio_turn.Goals as goal

pub returns-clause-gives : goal.returns-clause-gives
unfolding turned
returns-clause-gives g c =
    let world = unit_world g.C.MessageCodec.codec g.U.Units.answer in
    let records = g.U.Units.records in
    let s = state_of (records c.args.run_state.now.units) c.args.run_state.now.core c.args.run_state.now.network in
    let t = state_of (records c.turn_times.new.run_state.units) c.turn_times.new.run_state.core c.turn_times.new.run_state.network in
    subst (λ (n : ℕ). EventGives c.args.lines.now
    (turn_times world (6 * (n + 4096) + 2) (record { key = c.args.key; airs = n + 4096; acks = n + 4096; airing = true; moved = false }) s)
    c.turn_times.new.lines t c.turn_times.result) c.length.ensures
    (subst (λ (p : ℕ × ℕ). EventGives c.args.lines.now
    (turn_times world p.1 (record { key = c.args.key; airs = p.0; acks = p.0; airing = true; moved = false }) s) c.turn_times.new.lines t
    c.turn_times.result) c.in_ok-most.ensures c.turn_times.ensures.gives)
