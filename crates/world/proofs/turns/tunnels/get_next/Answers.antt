use Rattle.std.proofs.Common.{[], ◌++◌, Bool, sym, ◌∙◌, ap, subst}
use Rattle.std.specs.Prelude.{Ok}
use Rattle.gnb_types.specs.Orders.{tunnel_cmp}
use Rattle.tables.specs.Tables.{at}
use Rattle.scenario_text.specs.declared.line.Link.{Link}
use Rattle.run_defs.specs.Settling.{get_items}
use Rattle.run_defs.specs.UnitRuns.{unit_world}
use Rattle.run_links.specs.Networks.{state_of}
use Rattle.world.specs.turns.Turns.{PartGives, quiet_lines}
use Rattle.world.proofs.turns.OnTunnels.{gets_none, gets_one, gets_stop}
use Rattle.world.proofs.turns.tunnels.get_next.Goals as goal

pub returns-in-Err-clause-gives : goal.returns-in-Err-clause-gives
returns-in-Err-clause-gives g c more =
    let world = unit_world g.C.MessageCodec.codec g.U.Units.answer in
    let s = state_of (g.U.Units.records c.args.run_state.now.units) c.args.run_state.now.core c.args.run_state.now.network in
    gets_none world c.args.end more s s _ c.args.lines.now c.in-Err.ensures

pub returns-in-Err-get_item-clause-gives : goal.returns-in-Err-get_item-clause-gives
returns-in-Err-get_item-clause-gives g c more =
    let world = unit_world g.C.MessageCodec.codec g.U.Units.answer in
    let records = g.U.Units.records in
    let s = state_of (records c.args.run_state.now.units) c.args.run_state.now.core c.args.run_state.now.network in
    let t = state_of (records c.get_item.new.run_state.units) c.get_item.new.run_state.core c.get_item.new.run_state.network in
    gets_stop world c.args.end more s t c.in_default.field-0.now c.in-Err-get_item.cause c.args.lines.now c.get_item.new.lines c.in_default.ensures
    c.in-Err-get_item.ensures.gives

pub returns-clause-gives : goal.returns-clause-gives
returns-clause-gives g c more =
    let world = unit_world g.C.MessageCodec.codec g.U.Units.answer in
    let records = g.U.Units.records in
    let s = state_of (records c.args.run_state.now.units) c.args.run_state.now.core c.args.run_state.now.network in
    let t = state_of (records c.get_item.new.run_state.units) c.get_item.new.run_state.core c.get_item.new.run_state.network in
    let told =
    c.in_ok-show_held.ensures ∙ ap (λ (l : Link). c.get_item.new.lines ++ quiet_lines l c.in-Ok.moved) c.tunnel_link.ensures in
    subst (λ (b : Bool). PartGives c.args.lines.now (get_items world c.args.end more s (at tunnel_cmp [] s.tunnels c.args.end)) more c.show_held.new.lines
    t (Ok b)) (sym c.is_made.ensures)
    (gets_one world c.args.end more s t c.in_default.field-0.now c.in-Ok.moved c.args.lines.now c.get_item.new.lines c.show_held.new.lines
    c.in_default.ensures c.in-Ok.ensures.gives told)
