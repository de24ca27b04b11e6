use Rattle.std.proofs.Common.{◌≡◌, drop}
use Rattle.std.specs.Prelude.{map}
use Rattle.message_defs.specs.FromValue.{is_used}
use Rattle.message_values.specs.Elements.{use_of}
use Rattle.message_values.proofs.found.is_used.Given as goal

abbrev pub invariant-loop-it : goal.invariant-loop-it
invariant-loop-it l = is_used l.id (map use_of (drop l.it-index l.uses)) ≡ is_used l.id (map use_of l.uses)
