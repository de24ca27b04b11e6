use Rattle.std.proofs.Common.{◌≡◌, ap, subst}
use Rattle.run_defs.specs.Steps.{check_spans, put_on_tunnel}
use Rattle.run_defs.specs.Events.{offered}
use Rattle.run_defs.specs.UnitRuns.{unit_world}
use Rattle.run_links.specs.Networks.{OctetState, state_of}
use Rattle.run_links.specs.Told.{GoesTo}
use Rattle.world_steps.proofs.Carried.{then_gives}
use Rattle.world_events.proofs.bearers.offers.core_puts.Goals as goal

pub returns-clause-gives : goal.returns-clause-gives
returns-clause-gives g c =
    let world = unit_world g.C.MessageCodec.codec g.U.Units.answer in
    let units = g.U.Units.records c.args.run_state.now.units in
    let s = state_of units c.args.run_state.now.core c.args.run_state.now.network in
    let t = state_of units c.args.run_state.now.core c.put_on_tunnel.new.self in
    let counted : state_of units c.args.run_state.now.core c.offer.new.self ≡ offered world c.args.item.key s =
    ap (state_of units c.args.run_state.now.core) c.in_ok-offer.ensures in
    let puts : GoesTo c.args.lines.now (put_on_tunnel world c.args.end c.args.item (offered world c.args.item.key s)) c.put_on_tunnel.new.lines t =
    subst (λ (x : OctetState). GoesTo c.args.lines.now (put_on_tunnel world c.args.end c.args.item x) c.put_on_tunnel.new.lines t) counted
    (c.in_ok-put_on_tunnel.ensures.told g.C.MessageCodec.codec g.U.Units.answer units c.args.run_state.now.core) in
    then_gives (put_on_tunnel world c.args.end c.args.item (offered world c.args.item.key s)) check_spans c.args.lines.now c.put_on_tunnel.new.lines
    c.put_on_tunnel.new.lines t t c.look_at_spans.result puts (c.look_at_spans.ensures c.put_on_tunnel.new.lines)
