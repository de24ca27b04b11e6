use Rattle.std.proofs.Common.{◌≡◌, drop}
use Rattle.std.specs.Prelude.{map}
use Rattle.aper_values.specs.Views.{ies_view}
use Rattle.message_defs.specs.FromValue.{first_rejected}
use Rattle.message_values.specs.Elements.{use_of}
use Rattle.message_values.proofs.found.first_rejected.Given as goal

abbrev pub invariant-loop-ie : goal.invariant-loop-ie
invariant-loop-ie l = first_rejected (map use_of l.uses) (ies_view (drop l.ie-index l.found)) ≡ first_rejected (map use_of l.uses) (ies_view l.found)
