-- Internal: what holds between the turns of a decoder.
use Rattle.std.specs.Prelude.{◌≡◌, ℕ, List, ◌++◌}
use Rattle.aper_defs.specs.Trees.{Tree}
use Rattle.aper_defs.specs.Questions.{Prog}
use Rattle.aper_defs.specs.Asking.{asks_whole}
use Rattle.aper_defs.specs.Reading.{Cursor, at_first, run}
use Rattle.proof_aper.specs.pieces.Onto.{onto}

-- Of a value of a type, over these octets, after which any others may come, this is left to be asked at a place.
pub record IsReading (t : Tree) (kept : List ℕ) (c : Cursor) (left : Prog) : Type 0 where
  pub octets : c.octets ≡ kept
  pub asked : (more : List ℕ) → run (asks_whole t) (at_first (kept ++ more)) ≡ run left (onto more c)
