use Rattle.std.proofs.Common.{◌≡◌, ◌++◌}
use Rattle.std.specs.List.{flat_map}
use Rattle.world.specs.turns.Turns.{bearers_there}
use Rattle.world.proofs.turns.attached.attached_bearers.Given as goal

abbrev pub invariant-loop-ue : goal.invariant-loop-ue
invariant-loop-ue l =
    l.bearers ++ flat_map (λ e. bearers_there l.network.gone e.0 e.1.bearers) l.ue-iterator
    ≡ flat_map (λ e. bearers_there l.network.gone e.0 e.1.bearers) l.network.plans
