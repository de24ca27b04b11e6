use Rattle.std.proofs.Common.{◌≡◌, ◌++◌, drop}
use Rattle.world_steps.specs.control_messages.Turns.{nodes_there}
use Rattle.world_steps.proofs.control_messages.turns.push_there.Given as goal

abbrev pub invariant-loop-ue : goal.invariant-loop-ue
invariant-loop-ue l =
    l.nodes ++ nodes_there l.network.gone (drop l.ue-index l.terminals) ≡ l.initial.nodes ++ nodes_there l.network.gone l.terminals
