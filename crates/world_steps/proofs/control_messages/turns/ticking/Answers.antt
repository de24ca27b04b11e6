use Rattle.std.proofs.Common.{List, ◌++◌, ◌∙◌, ap}
use Rattle.gnb_types.specs.declared.names.NodeId.{NodeId}
use Rattle.gnb_types.specs.declared.names.UeId.{UeId}
use Rattle.run_defs.specs.Units.{gnb_nodes}
use Rattle.run_links.specs.Networks.{state_of}
use Rattle.world_steps.specs.control_messages.Turns.{nodes_there}
use Rattle.world_steps.proofs.control_messages.NodeTurns.{ticking_is}
use Rattle.world_steps.proofs.control_messages.turns.ticking.Goals as goal

pub returns : goal.returns
returns g c =
    let s = state_of (g.U.Units.records c.args.run_state.now.units) c.args.run_state.now.core c.args.run_state.now.network in
    c.in_ok-push_there.ensures
    ∙ ap (λ (l : List NodeId). l ++ nodes_there s.gone c.as_slice.result.now) c.in_ok-nodes.ensures
    ∙ ap (λ (u : List UeId). gnb_nodes ++ nodes_there s.gone u) (c.as_slice.ensures ∙ c.in_ok-terminals.ensures)
    ∙ ticking_is s
