use Rattle.std.proofs.Common.{sym, ◌∙◌, ap, subst}
use Rattle.run_defs.specs.UnitRuns.{unit_world}
use Rattle.run_links.specs.Networks.{OctetOutcome, state_of}
use Rattle.world_steps.specs.Gives.{EventGives}
use Rattle.world_events.specs.orders.Orders.{Ordered, MayBeGiven, ordered}
use Rattle.world_events.proofs.orders.AsOrders.{arrive_is}
use Rattle.world_events.proofs.orders.Given.{arrive_may}
use Rattle.world_events.proofs.orders.terminals.arrive.Goals as goal

pub returns-clause-gives : goal.returns-clause-gives
returns-clause-gives g c =
    let world = unit_world g.C.MessageCodec.codec g.U.Units.answer in
    let records = g.U.Units.records in
    let s = state_of (records c.args.run_state.now.units) c.args.run_state.now.core c.args.run_state.now.network in
    let t = state_of (records c.give_order.new.run_state.units) c.give_order.new.run_state.core c.give_order.new.run_state.network in
    subst (λ (o : OctetOutcome). EventGives c.args.lines.now o c.give_order.new.lines t c.give_order.result)
    (sym (arrive_is world c.args.ue s ∙ ap (ordered world s) (sym c.arrive_order-order.ensures))) c.give_order.ensures.gives

pub give_order-requires-clause-there : goal.give_order-requires-clause-there
give_order-requires-clause-there g c =
    let s = state_of (g.U.Units.records c.args.run_state.now.units) c.args.run_state.now.core c.args.run_state.now.network in
    subst (λ (o : Ordered). MayBeGiven s.units o) (sym c.arrive_order-order.ensures) (arrive_may s c.args.ue)
