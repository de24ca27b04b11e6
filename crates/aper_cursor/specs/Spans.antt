-- Open types around a place, as the definitions have them.
use Rattle.aper_defs.specs.Reading.{Opened}
use Rattle.aper_cursor.specs.declared.cursor.Span.{Span}

abbrev pub span_view : Span → Opened
span_view s = record { start = s.start; finish = s.finish }
