use Rattle.std.proofs.Common.{◌≡◌, ◌++◌, take, drop}
use Rattle.aper_defs.specs.Trees.{has_slot, slots_before, slots_after}
use Rattle.aper_cursor.specs.Questions.{slots_of}
use Rattle.aper_cursor.proofs.rows.find_row.Given as goal

abbrev pub invariant-loop-i : goal.invariant-loop-i
invariant-loop-i l = record {
  has : has_slot l.id (slots_of l.rows) ≡ has_slot l.id (slots_of (drop l.i l.rows));
  before : slots_before l.id (slots_of l.rows) ≡ slots_of (take l.i l.rows) ++ slots_before l.id (slots_of (drop l.i l.rows));
  after : slots_after l.id (slots_of l.rows) ≡ slots_after l.id (slots_of (drop l.i l.rows));
}
