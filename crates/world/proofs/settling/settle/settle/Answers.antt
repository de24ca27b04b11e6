use Rattle.std.proofs.Common.{ℕ, subst}
use Rattle.run_defs.specs.Settling.{rounds_from, settle}
use Rattle.run_defs.specs.UnitRuns.{unit_world}
use Rattle.run_links.specs.Networks.{state_of}
use Rattle.world_steps.specs.Gives.{EventGives}
use Rattle.world.proofs.settling.settle.settle.Goals as goal

pub returns-clause-gives : goal.returns-clause-gives
unfolding settle
returns-clause-gives g c =
    let world = unit_world g.C.MessageCodec.codec g.U.Units.answer in
    let records = g.U.Units.records in
    let s = state_of (records c.args.run_state.now.units) c.args.run_state.now.core c.args.run_state.now.network in
    let t = state_of (records c.rounds_from.new.run_state.units) c.rounds_from.new.run_state.core c.rounds_from.new.run_state.network in
    subst (λ (n : ℕ). EventGives c.args.lines.now (rounds_from world 0 n s) c.rounds_from.new.lines t c.rounds_from.result)
    (c.in_ok-limit.ensures world (records c.args.run_state.now.units) c.args.run_state.now.core) c.rounds_from.ensures.gives
