use Rattle.std.proofs.Common.{◌≡◌}
use Rattle.links.specs.Radios.{first_of}
use Rattle.links.proofs.radios.Radios.first_of.Given as goal

abbrev pub invariant-loop-key : goal.invariant-loop-key
invariant-loop-key l = first_of l.ue l.key-iterator ≡ first_of l.ue l.initial.key-iterator
