use Rattle.std.proofs.Common.{◌≡◌, drop}
use Rattle.aper_fields.specs.members.Rows.{message_type}
use Rattle.aper_fields.proofs.members.rows.message_type.Given as goal

abbrev pub invariant-loop-row : goal.invariant-loop-row
invariant-loop-row l = message_type l.outcome l.code (drop l.row-index l.rows) ≡ message_type l.outcome l.code l.rows
