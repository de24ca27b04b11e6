use Rattle.std.proofs.Common.{◌≡◌, map, take}
use Rattle.std.specs.Prelude.{reverse}
use Rattle.aper_cursor.specs.Spans.{span_view}
use Rattle.aper_cursor.specs.inside.Places.{opened}
use Rattle.aper_cursor.proofs.cursor.Cursor.put_spans.Given as goal

abbrev pub invariant-loop-open : goal.invariant-loop-open
invariant-loop-open l = map span_view (reverse l.out.items) ≡ map opened (reverse (take l.open-index l.open-items))
