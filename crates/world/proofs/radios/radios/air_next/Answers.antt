use Rattle.std.proofs.Common.{◌==◌, ℕ, ◌++◌, sym, ◌∙◌, ap, subst}
use Rattle.gnb_types.specs.Orders.{entity_cmp}
use Rattle.tables.specs.Tables.{at}
use Rattle.transport_defs.specs.Links.{nth, silent}
use Rattle.scenario_text.specs.declared.line.Link.{Link}
use Rattle.run_defs.specs.Lines.{radio_link}
use Rattle.run_defs.specs.Settling.{Turn, air_next}
use Rattle.run_defs.specs.UnitRuns.{unit_world}
use Rattle.run_links.specs.Networks.{state_of}
use Rattle.world.specs.turns.Turns.{Continues, quiet_lines}
use Rattle.world.specs.radios.RadioTurns.{turn_of}
use Rattle.world.proofs.turns.Turned.{not_zero}
use Rattle.world.proofs.radios.OnRadios.{airs_none, airs_spent, airs_one, airs_stop}
use Rattle.world.proofs.radios.radios.air_next.Goals as goal

pub returns-then-turn-eq0-clause-gives : goal.returns-then-turn-eq0-clause-gives
returns-then-turn-eq0-clause-gives g c again =
    let world = unit_world g.C.MessageCodec.codec g.U.Units.answer in
    let s = state_of (g.U.Units.records c.args.run_state.now.units) c.args.run_state.now.core c.args.run_state.now.network in
    let r = at entity_cmp silent s.radios c.args.turn.key in
    let there = nth r.items r.carried in
    subst (λ (x : Turn). Continues c.args.lines.now (air_next world again (turn_of c.args.turn) c.args.home s there) c.args.lines.now (again x s))
    (sym c.to_acks-left.ensures)
    (airs_spent world again (turn_of c.args.turn) c.args.home s s there c.args.lines.now (ap (λ (n : ℕ). n == 0) c.if-turn-eq0.true))

pub returns-in-None-clause-gives : goal.returns-in-None-clause-gives
returns-in-None-clause-gives g c again =
    let world = unit_world g.C.MessageCodec.codec g.U.Units.answer in
    let s = state_of (g.U.Units.records c.args.run_state.now.units) c.args.run_state.now.core c.args.run_state.now.network in
    let r = at entity_cmp silent s.radios c.args.turn.key in
    let there = nth r.items r.carried in
    subst (λ (x : Turn). Continues c.args.lines.now (air_next world again (turn_of c.args.turn) c.args.home s there) c.args.lines.now (again x s))
    (sym c.to_acks-left.ensures) (airs_none world again (turn_of c.args.turn) c.args.home s s there c.args.lines.now c.in-None.ensures)

pub returns-in-Err-clause-gives : goal.returns-in-Err-clause-gives
returns-in-Err-clause-gives g c again =
    let world = unit_world g.C.MessageCodec.codec g.U.Units.answer in
    let records = g.U.Units.records in
    let s = state_of (records c.args.run_state.now.units) c.args.run_state.now.core c.args.run_state.now.network in
    let t = state_of (records c.air_item.new.run_state.units) c.air_item.new.run_state.core c.air_item.new.run_state.network in
    let r = at entity_cmp silent s.radios c.args.turn.key in
    airs_stop world again (turn_of c.args.turn) c.args.home s t (nth r.items r.carried) c.in_default.field-0.now c.in-Err.cause c.args.lines.now
    c.air_item.new.lines c.in_default.ensures (not_zero c.args.turn.airs c.if-turn-eq0.false) c.in-Err.ensures.gives

pub returns-clause-gives : goal.returns-clause-gives
returns-clause-gives g c again =
    let world = unit_world g.C.MessageCodec.codec g.U.Units.answer in
    let records = g.U.Units.records in
    let s = state_of (records c.args.run_state.now.units) c.args.run_state.now.core c.args.run_state.now.network in
    let t = state_of (records c.air_item.new.run_state.units) c.air_item.new.run_state.core c.air_item.new.run_state.network in
    let r = at entity_cmp silent s.radios c.args.turn.key in
    let there = nth r.items r.carried in
    let told =
    c.in_ok-show_held.ensures
    ∙ ap (λ (l : Link). c.air_item.new.lines ++ quiet_lines l c.in-Ok.moved)
    (c.radio_link-link.ensures ∙ ap (λ (n : ℕ). radio_link c.args.turn.key n) c.shown_epoch.ensures) in
    subst (λ (x : Turn). Continues c.args.lines.now (air_next world again (turn_of c.args.turn) c.args.home s there) c.show_held.new.lines (again x t))
    (sym c.aired.ensures)
    (airs_one world again (turn_of c.args.turn) c.args.home s t there c.in_default.field-0.now c.in-Ok.moved c.args.lines.now c.air_item.new.lines
    c.show_held.new.lines c.in_default.ensures (not_zero c.args.turn.airs c.if-turn-eq0.false) c.in-Ok.ensures.gives told)
