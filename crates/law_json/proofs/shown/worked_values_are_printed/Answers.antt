use Rattle.std.proofs.Common.{refl}
use Rattle.std.specs.Fmt.{digits}
use Rattle.serde_json.proofs.OnLiterals.{serde_json_on_literals}
use Rattle.json_defs.specs.shown_defs.Printed.{shown_as, components_shown, added_shown, part_shown, row_shown, contents_shown, outcome_shown}
use Rattle.law_json.proofs.shown.worked_values_are_printed.Goals as goal

pub returns : goal.returns
unfolding digits shown_as components_shown added_shown part_shown row_shown contents_shown outcome_shown serde_json_on_literals
returns c = refl
