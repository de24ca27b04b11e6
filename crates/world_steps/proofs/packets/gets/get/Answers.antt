use Rattle.std.proofs.Common.{◌++◌, ◌∙◌, ap}
use Rattle.scenario_text.specs.declared.line.Link.{Link}
use Rattle.run_links.specs.Networks.{state_of}
use Rattle.world_steps.specs.Moves.{held_lines}
use Rattle.world_steps.proofs.packets.Got.{get_refuses, get_moves, get_stops}
use Rattle.world_steps.proofs.packets.gets.get.Goals as goal

pub returns-in-Err-clause-gives : goal.returns-in-Err-clause-gives
returns-in-Err-clause-gives g c =
    get_refuses g.C.MessageCodec.codec g.U.Units.answer c.args.end
    (state_of (g.U.Units.records c.args.run_state.now.units) c.args.run_state.now.core c.args.run_state.now.network) c.in-Err.reason c.args.lines.now c.push.new.self
    c.in-Err.ensures c.in_ok-push.ensures.ok

pub returns-in-Err-get_item-clause-gives : goal.returns-in-Err-get_item-clause-gives
returns-in-Err-get_item-clause-gives g c =
    get_stops g.C.MessageCodec.codec g.U.Units.answer c.args.end
    (state_of (g.U.Units.records c.args.run_state.now.units) c.args.run_state.now.core c.args.run_state.now.network)
    (state_of (g.U.Units.records c.get_item.new.run_state.units) c.get_item.new.run_state.core c.get_item.new.run_state.network) c.in_default.field-0.now
    c.in-Err-get_item.cause c.args.lines.now c.get_item.new.lines c.in_default.ensures c.in-Err-get_item.ensures.gives

pub returns-clause-gives : goal.returns-clause-gives
returns-clause-gives g c =
    get_moves g.C.MessageCodec.codec g.U.Units.answer c.args.end
    (state_of (g.U.Units.records c.args.run_state.now.units) c.args.run_state.now.core c.args.run_state.now.network)
    (state_of (g.U.Units.records c.get_item.new.run_state.units) c.get_item.new.run_state.core c.get_item.new.run_state.network) c.in_default.field-0.now c.in-Ok.moved
    c.args.lines.now c.get_item.new.lines c.show_held.new.lines c.in_default.ensures c.in-Ok.ensures.gives
    (c.in_ok-show_held.ensures ∙ ap (λ (l : Link). c.get_item.new.lines ++ held_lines l c.in-Ok.moved) c.tunnel_link.ensures)
