use Rattle.std.proofs.Common.{◌≡◌, map, take}
use Rattle.std.specs.Prelude.{reverse}
use Rattle.aper_cursor.specs.Spans.{span_view}
use Rattle.aper_cursor.proofs.cursor.Cursor.at.Given as goal

abbrev pub invariant-loop-span : goal.invariant-loop-span
invariant-loop-span l = l.cursor ≡ record { octets = l.octets; place = l.place; opens = map span_view (reverse (take l.span-index l.spans)) }
