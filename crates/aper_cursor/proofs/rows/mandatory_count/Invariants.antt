use Rattle.std.proofs.Common.{◌≡◌, ◌+◌, ◌≤◌, drop}
use Rattle.aper_defs.specs.Trees.{mandatory_count}
use Rattle.aper_cursor.specs.Questions.{slots_of}
use Rattle.aper_cursor.proofs.rows.mandatory_count.Given as goal

abbrev pub invariant-loop-row : goal.invariant-loop-row
invariant-loop-row l = record {
  most : l.count ≤ l.row-index;
  sum : l.count + mandatory_count (slots_of (drop l.row-index l.rows)) ≡ mandatory_count (slots_of l.rows);
}
