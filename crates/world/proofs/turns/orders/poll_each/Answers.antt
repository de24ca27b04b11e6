use Rattle.std.proofs.Common.{List, ◌∙◌, subst}
use Rattle.gnb_types.specs.declared.names.UeId.{UeId}
use Rattle.gnb_types.specs.declared.names.BearerId.{BearerId}
use Rattle.run_defs.specs.Settling.{poll_each}
use Rattle.run_defs.specs.UnitRuns.{unit_world}
use Rattle.run_links.specs.Networks.{state_of}
use Rattle.world_steps.specs.Gives.{EventGives}
use Rattle.world.proofs.turns.orders.poll_each.Goals as goal

pub returns-clause-gives : goal.returns-clause-gives
returns-clause-gives g c =
    let world = unit_world g.C.MessageCodec.codec g.U.Units.answer in
    let records = g.U.Units.records in
    let s = state_of (records c.args.run_state.now.units) c.args.run_state.now.core c.args.run_state.now.network in
    let t = state_of (records c.poll_bearers.new.run_state.units) c.poll_bearers.new.run_state.core c.poll_bearers.new.run_state.network in
    subst (λ (l : List (UeId × BearerId)). EventGives c.args.lines.now (poll_each world l s) c.poll_bearers.new.lines t c.poll_bearers.result)
    (c.as_slice.ensures ∙ c.in_ok-bearers.ensures (records c.args.run_state.now.units) c.args.run_state.now.core) c.poll_bearers.ensures.gives
