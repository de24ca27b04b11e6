use Rattle.std.proofs.Common.{ℕ, ◌++◌, ◌∙◌, sym, ap}
use Rattle.scenario_text.specs.declared.line.Link.{Link}
use Rattle.run_defs.specs.Lines.{radio_link}
use Rattle.run_defs.specs.UnitRuns.{unit_world}
use Rattle.run_links.specs.Networks.{state_of}
use Rattle.world_steps.specs.Moves.{held_lines}
use Rattle.world_steps.proofs.packets.Aired.{air_refuses, air_empty, air_moves, air_stops}
use Rattle.world_steps.proofs.packets.radio.air.Goals as goal

pub returns-in-Err-clause-gives : goal.returns-in-Err-clause-gives
returns-in-Err-clause-gives g c =
    air_refuses (unit_world g.C.MessageCodec.codec g.U.Units.answer) c.args.key (state_of (g.U.Units.records c.args.run_state.now.units) c.args.run_state.now.core c.args.run_state.now.network) c.in-Err.reason c.args.lines.now c.push.new.self
    c.in-Err.ensures c.in_ok-push-in-Err.ensures.ok

pub returns-in-None-clause-gives : goal.returns-in-None-clause-gives
returns-in-None-clause-gives g c =
    air_empty (unit_world g.C.MessageCodec.codec g.U.Units.answer) c.args.key (state_of (g.U.Units.records c.args.run_state.now.units) c.args.run_state.now.core c.args.run_state.now.network) c.in-Ok.home c.args.lines.now c.push-in-None.new.self
    c.in-Ok.ensures c.in-None.ensures c.in_ok-push.ensures.ok

pub returns-in-Err-air_item-clause-gives : goal.returns-in-Err-air_item-clause-gives
returns-in-Err-air_item-clause-gives g c =
    air_stops (unit_world g.C.MessageCodec.codec g.U.Units.answer) c.args.key (state_of (g.U.Units.records c.args.run_state.now.units) c.args.run_state.now.core c.args.run_state.now.network)
    (state_of (g.U.Units.records c.air_item.new.run_state.units) c.air_item.new.run_state.core c.air_item.new.run_state.network) c.in-Ok.home c.in_default.field-0.now c.in-Err-air_item.cause c.args.lines.now c.air_item.new.lines
    c.in-Ok.ensures c.in_default.ensures (c.in-Err-air_item.ensures.gives c.in_default.field-0.now (sym c.in_default.ensures))

pub returns-clause-gives : goal.returns-clause-gives
returns-clause-gives g c =
    air_moves (unit_world g.C.MessageCodec.codec g.U.Units.answer) c.args.key (state_of (g.U.Units.records c.args.run_state.now.units) c.args.run_state.now.core c.args.run_state.now.network)
    (state_of (g.U.Units.records c.air_item.new.run_state.units) c.air_item.new.run_state.core c.air_item.new.run_state.network) c.in-Ok.home c.in_default.field-0.now c.in-Ok-air_item.moved c.args.lines.now c.air_item.new.lines c.show_held.new.lines
    c.in-Ok.ensures c.in_default.ensures (c.in-Ok-air_item.ensures.gives c.in_default.field-0.now (sym c.in_default.ensures)) (c.in_ok-show_held.ensures ∙ ap (λ (l : Link). c.air_item.new.lines ++ held_lines l c.in-Ok-air_item.moved)
    (c.radio_link-link.ensures ∙ ap (λ (n : ℕ). radio_link c.args.key n) c.shown_epoch.ensures))
