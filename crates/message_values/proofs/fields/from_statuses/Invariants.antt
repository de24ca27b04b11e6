use Rattle.std.proofs.Common.{◌≡◌, take}
use Rattle.std.specs.Prelude.{map}
use Rattle.aper_values.specs.Views.{view}
use Rattle.message_defs.specs.Fields.{from_status}
use Rattle.message_values.proofs.fields.from_statuses.Given as goal

abbrev pub invariant-loop-status : goal.invariant-loop-status
invariant-loop-status l = map view l.members.items ≡ map from_status (take l.status-index l.statuses)
