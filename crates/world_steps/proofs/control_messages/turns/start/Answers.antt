use Rattle.std.proofs.Common.{refl, sym, ◌∙◌, ap}
use Rattle.run_defs.specs.UnitRuns.{unit_world}
use Rattle.run_links.specs.declared.network.Network.{Network}
use Rattle.run_links.specs.Networks.{state_of}
use Rattle.world_steps.proofs.control_messages.NodeTurns.{starts_again, starts}
use Rattle.world_steps.proofs.control_messages.turns.start.Goals as goal

pub returns-then-has_started-clause-gives : goal.returns-then-has_started-clause-gives
returns-then-has_started-clause-gives g c =
    starts_again (unit_world g.C.MessageCodec.codec g.U.Units.answer)
    (state_of (g.U.Units.records c.args.run_state.now.units) c.args.run_state.now.core c.args.run_state.now.network) c.args.lines.now c.push.new.self
    (sym c.has_started.ensures ∙ c.if-has_started.true) c.in_ok-push.ensures.ok

pub returns-clause-gives : goal.returns-clause-gives
returns-clause-gives g c =
    let records = g.U.Units.records in
    let units = records c.args.run_state.now.units in
    starts (unit_world g.C.MessageCodec.codec g.U.Units.answer) (state_of units c.args.run_state.now.core c.args.run_state.now.network)
    (state_of units c.args.run_state.now.core c.start.new.self)
    (state_of (records c.start_each.new.run_state.units) c.start_each.new.run_state.core c.start_each.new.run_state.network) _ c.args.lines.now
    c.start_each.new.lines c.start_each.result (sym c.has_started.ensures ∙ c.if-has_started.false)
    (ap (λ (x : Network). state_of units c.args.run_state.now.core x) c.start.ensures) refl c.start_each.ensures.gives
