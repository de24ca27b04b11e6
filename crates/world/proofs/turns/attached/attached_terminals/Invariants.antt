use Rattle.std.proofs.Common.{◌≡◌, ◌++◌}
use Rattle.std.specs.List.{flat_map}
use Rattle.world.specs.turns.Turns.{terminals_there}
use Rattle.world.proofs.turns.attached.attached_terminals.Given as goal

abbrev pub invariant-loop-ue : goal.invariant-loop-ue
invariant-loop-ue l =
    l.terminals ++ flat_map (λ e. terminals_there l.network.gone e.0) l.ue-iterator ≡ flat_map (λ e. terminals_there l.network.gone e.0) l.network.plans
