use Rattle.std.proofs.Common.{◌≡◌, ◌+◌, ◌*◌, ◌++◌, replicate}
use Rattle.bits_core.specs.Bits.{numbers_at}
use Rattle.aper_defs.specs.Reading.{bits_at}
use Rattle.aper_cursor.proofs.cursor.Cursor.put_run.Given as goal

abbrev pub invariant-loop-done : goal.invariant-loop-done
invariant-loop-done l = record {
  reader : l.reader ≡ record { octets = l.self.octets; place = l.self.place + l.width * l.done };
  put : l.out.items ≡ l.fn.out.items ++ numbers_at (replicate l.done l.width) (bits_at l.self);
}
