use Rattle.std.proofs.Common.{◌≡◌, ◌+◌, ◌-◌, ◌++◌, map}
use Rattle.run_defs.specs.Steps.{bearer_numbers}
use Rattle.world.specs.turns.Turns.{bearers_to}
use Rattle.world.proofs.turns.attached.push_bearers.Given as goal

abbrev pub invariant-loop-before : goal.invariant-loop-before
invariant-loop-before l =
    l.bearers ++ map (λ b. (l.ue, b)) (bearer_numbers (l.before + 1) (l.count - l.before)) ≡ l.fn.bearers ++ bearers_to l.ue l.count
