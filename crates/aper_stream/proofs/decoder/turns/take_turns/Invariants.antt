use Rattle.std.proofs.Common.{◌≡◌, length}
use Rattle.aper_defs.specs.Trees.{Tree}
use Rattle.aper_stream.specs.decoder.inside.Reading.{cursor_at, Stands, IsReadingAt}
use Rattle.aper_stream.proofs.decoder.turns.take_turns.Given as goal

-- What comes next stands where the cursor is, and is what is left of the value.
abbrev pub invariant-loop-turn : goal.invariant-loop-turn
invariant-loop-turn l = record {
  at : l.cursor ≡ cursor_at l.spot l.octets;
  stands : Stands l.m (length l.octets) l.spot l.next l.frames;
  reading : (t : Tree) → IsReadingAt l.m t l.octets l.fn.spot l.fn.next l.fn.frames → IsReadingAt l.m t l.octets l.spot l.next l.frames;
}
