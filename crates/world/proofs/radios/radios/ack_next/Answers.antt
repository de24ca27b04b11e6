use Rattle.std.proofs.Common.{◌≡◌, ◌==◌, ℕ, false, length, Option, sym, ◌∙◌, ap, subst}
use Rattle.std.specs.Prelude.{Ok}
use Rattle.gnb_types.specs.Orders.{entity_cmp}
use Rattle.tables.specs.Tables.{at}
use Rattle.transport_defs.specs.Links.{silent}
use Rattle.run_defs.specs.Settling.{Turn, ack_next}
use Rattle.run_defs.specs.UnitRuns.{unit_world}
use Rattle.run_links.specs.Networks.{state_of}
use Rattle.world.specs.turns.Turns.{Continues}
use Rattle.world.specs.radios.RadioTurns.{TurnGives, turn_of}
use Rattle.world.proofs.turns.Turned.{not_zero}
use Rattle.world.proofs.radios.OnRadios.{acks_none, acks_spent, acks_uncarried, acks_one, acks_stop}
use Rattle.world.proofs.radios.radios.ack_next.Goals as goal

pub returns-then-length-eq0-clause-gives : goal.returns-then-length-eq0-clause-gives
returns-then-length-eq0-clause-gives g c again =
    let world = unit_world g.C.MessageCodec.codec g.U.Units.answer in
    let s = state_of (g.U.Units.records c.args.run_state.now.units) c.args.run_state.now.core c.args.run_state.now.network in
    let r = at entity_cmp silent s.radios c.args.turn.key in
    acks_none world again (turn_of c.args.turn) c.args.home s s r.items r.carried c.args.lines.now
    (ap (λ (n : ℕ). n == 0) (sym c.length.ensures ∙ c.if-length-eq0.true))

pub returns-then-turn-eq0-clause-gives : goal.returns-then-turn-eq0-clause-gives
returns-then-turn-eq0-clause-gives g c again =
    let world = unit_world g.C.MessageCodec.codec g.U.Units.answer in
    let s = state_of (g.U.Units.records c.args.run_state.now.units) c.args.run_state.now.core c.args.run_state.now.network in
    let r = at entity_cmp silent s.radios c.args.turn.key in
    subst (λ (x : Option Turn). TurnGives c.args.lines.now (ack_next world again (turn_of c.args.turn) c.args.home s r.items r.carried) again c.args.lines.now s
    (Ok x)) (sym c.over-left.ensures)
    (acks_spent world again (turn_of c.args.turn) c.args.home s s r.items r.carried c.args.lines.now
    (subst (λ (n : ℕ). (n == 0) ≡ false) c.length.ensures (not_zero c.length.result c.if-length-eq0.false))
    (ap (λ (n : ℕ). n == 0) c.if-turn-eq0.true))

pub returns-in-None-clause-gives : goal.returns-in-None-clause-gives
returns-in-None-clause-gives g c again =
    let world = unit_world g.C.MessageCodec.codec g.U.Units.answer in
    let s = state_of (g.U.Units.records c.args.run_state.now.units) c.args.run_state.now.core c.args.run_state.now.network in
    let r = at entity_cmp silent s.radios c.args.turn.key in
    subst (λ (x : Option Turn). TurnGives c.args.lines.now (ack_next world again (turn_of c.args.turn) c.args.home s r.items r.carried) again c.args.lines.now s
    (Ok x)) (sym c.over-left.ensures)
    (acks_uncarried world again (turn_of c.args.turn) c.args.home s s r.items r.carried c.args.lines.now
    (subst (λ (n : ℕ). (n == 0) ≡ false) c.length.ensures (not_zero c.length.result c.if-length-eq0.false)) c.in-None.ensures)

pub returns-in-Err-clause-gives : goal.returns-in-Err-clause-gives
returns-in-Err-clause-gives g c again =
    let world = unit_world g.C.MessageCodec.codec g.U.Units.answer in
    let records = g.U.Units.records in
    let s = state_of (records c.args.run_state.now.units) c.args.run_state.now.core c.args.run_state.now.network in
    let t = state_of (records c.ack_item.new.run_state.units) c.ack_item.new.run_state.core c.ack_item.new.run_state.network in
    let r = at entity_cmp silent s.radios c.args.turn.key in
    acks_stop world again (turn_of c.args.turn) c.args.home s t r.items r.carried c.in_default.field-0.now c.in-Err.cause c.args.lines.now c.ack_item.new.lines
    c.in_default.ensures (not_zero c.args.turn.acks c.if-turn-eq0.false) c.in-Err.ensures.gives

pub returns-in-Ok-clause-gives : goal.returns-in-Ok-clause-gives
returns-in-Ok-clause-gives g c again =
    let world = unit_world g.C.MessageCodec.codec g.U.Units.answer in
    let records = g.U.Units.records in
    let s = state_of (records c.args.run_state.now.units) c.args.run_state.now.core c.args.run_state.now.network in
    let t = state_of (records c.ack_item.new.run_state.units) c.ack_item.new.run_state.core c.ack_item.new.run_state.network in
    let r = at entity_cmp silent s.radios c.args.turn.key in
    subst (λ (x : Turn). Continues c.args.lines.now (ack_next world again (turn_of c.args.turn) c.args.home s r.items r.carried) c.ack_item.new.lines (again x t))
    (sym c.after_ack.ensures)
    (acks_one world again (turn_of c.args.turn) c.args.home s t r.items r.carried c.in_default.field-0.now c.in-Ok.field-0 c.args.lines.now c.ack_item.new.lines
    c.in_default.ensures (not_zero c.args.turn.acks c.if-turn-eq0.false) c.in-Ok.ensures.gives)
