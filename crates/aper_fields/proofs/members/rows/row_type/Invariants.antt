use Rattle.std.proofs.Common.{◌≡◌, drop}
use Rattle.aper_fields.specs.members.Rows.{row_type}
use Rattle.aper_fields.proofs.members.rows.row_type.Given as goal

abbrev pub invariant-loop-row : goal.invariant-loop-row
invariant-loop-row l = row_type l.id (drop l.row-index l.rows) ≡ row_type l.id l.rows
