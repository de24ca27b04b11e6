use Rattle.std.proofs.Common.{List, ◌∙◌, ap, subst}
use Rattle.gnb_types.specs.declared.names.UeId.{UeId}
use Rattle.run_defs.specs.Settling.{attached_plans}
use Rattle.run_defs.specs.UnitRuns.{unit_world}
use Rattle.run_links.specs.Networks.{OctetOutcome, state_of}
use Rattle.world_steps.specs.Gives.{EventGives}
use Rattle.world.specs.turns.Turns.{move_terminals}
use Rattle.world.proofs.turns.Lists.{moves_are}
use Rattle.world.proofs.turns.orders.move_each.Goals as goal

pub returns-clause-gives : goal.returns-clause-gives
returns-clause-gives g c =
    let world = unit_world g.C.MessageCodec.codec g.U.Units.answer in
    let records = g.U.Units.records in
    let s = state_of (records c.args.run_state.now.units) c.args.run_state.now.core c.args.run_state.now.network in
    let t = state_of (records c.move_terminals.new.run_state.units) c.move_terminals.new.run_state.core c.move_terminals.new.run_state.network in
    subst (λ (o : OctetOutcome). EventGives c.args.lines.now o c.move_terminals.new.lines t c.move_terminals.result)
    (ap (λ (l : List UeId). move_terminals world l s)
    (c.as_slice.ensures ∙ c.in_ok-terminals.ensures (records c.args.run_state.now.units) c.args.run_state.now.core)
    ∙ moves_are world (attached_plans s) s) c.move_terminals.ensures.gives
