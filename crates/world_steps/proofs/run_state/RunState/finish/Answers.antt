use Rattle.std.proofs.Common.{◌≡◌, map, subst}
use Rattle.run_defs.specs.Steps.{reconnect_node, put_out_all, check_spans}
use Rattle.run_defs.specs.States.{◌next◌}
use Rattle.run_defs.specs.UnitRuns.{unit_world, put_of}
use Rattle.run_links.specs.Networks.{OctetState, state_of}
use Rattle.run_links.specs.Told.{GoesTo}
use Rattle.run_links.proofs.Goes.{then_goes}
use Rattle.world_steps.proofs.Carried.{then_gives}
use Rattle.world_steps.proofs.run_state.RunState.finish.Goals as goal

pub returns-clause-gives : goal.returns-clause-gives
returns-clause-gives g c =
    let world = unit_world g.C.MessageCodec.codec g.U.Units.answer in
    let records = g.U.Units.records in
    let s = state_of (records c.args.self.now.units) c.args.self.now.core c.args.self.now.network in
    let t = state_of (records c.follow.new.self.units) c.follow.new.self.core c.follow.new.self.network in
    let u = state_of (records c.follow.new.self.units) c.follow.new.self.core c.put_out_all.new.self in
    let same : state_of (records c.args.self.now.units) c.args.self.now.core c.follow.new.self.network ≡ t =
    cc (c.follow.ensures.units, c.follow.ensures.core) in
    let puts = put_out_all world c.args.node c.args.taken (map put_of c.args.outputs) in
    let follows : GoesTo c.args.lines.now (reconnect_node world c.args.node s) c.follow.new.lines t =
    subst (λ (x : OctetState). GoesTo c.args.lines.now (reconnect_node world c.args.node s) c.follow.new.lines x) same c.in_ok-follow.ensures.goes in
    then_gives (reconnect_node world c.args.node s next puts) check_spans c.args.lines.now c.put_out_all.new.lines c.put_out_all.new.lines u u
    c.look_at_spans.result
    (then_goes (reconnect_node world c.args.node s) puts c.args.lines.now c.follow.new.lines c.put_out_all.new.lines t u follows
    (c.in_ok-put_out_all.ensures g.C.MessageCodec.codec g.U.Units.answer (records c.follow.new.self.units) c.follow.new.self.core))
    (c.look_at_spans.ensures c.put_out_all.new.lines)
