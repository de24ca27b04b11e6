-- A decoder that is fed in pieces. It keeps the octets of its pieces, up to and with the piece that ends it.
use Rattle.std.specs.Prelude.{ℕ, ◌-◌, ◌/◌, List, [], ◌∷◌, ◌++◌, Result, Ok, Err}
use Rattle.aper_defs.specs.declared.reason.Reason.{Reason}
use Rattle.aper_defs.specs.declared.reason.Reason.TheVariants as reasons
use Rattle.aper_defs.specs.Trees.{Tree}
use Rattle.aper_defs.specs.Values.{Value}
use Rattle.aper_defs.specs.Asking.{asks_whole}
use Rattle.aper_defs.specs.Reading.{Cursor, Fault, at_first, run}

-- What octets are, where more may come: a value with the number of octets that spell it, cut off so far, or wrong already.
pub data Stage : Type 0 where
  whole : (v : Value) (size : ℕ) → Stage
  cut : (fault : Fault) → Stage
  wrong : (fault : Fault) → Stage

abbrev pub refused_for : Reason → Fault → Stage
refused_for reasons.Truncated fault = cut fault
refused_for reason fault = wrong fault

abbrev pub stage_of : Result (Value × Cursor) Fault → Stage
stage_of (Ok (v, c)) = whole v (c.place / 8)
stage_of (Err fault) = refused_for fault.reason fault

abbrev pub stage : Tree → List ℕ → Stage
stage t kept = stage_of (run (asks_whole t) (at_first kept))

-- What is answered to a piece, after so many octets of the pieces before it: how many octets of this piece the value takes, that more
-- are awaited, or the refusal.
pub data Answer : Type 0 where
  done : (used : ℕ) → Answer
  more : Answer
  refused : (fault : Fault) → Answer

abbrev pub answer : (before : ℕ) → Stage → Answer
answer before (whole v size) = done (size - before)
answer before (cut fault) = more
answer before (wrong fault) = refused fault

-- ---- one piece after another
pub record Fed : Type 0 where
  pub kept : List ℕ
  pub now : Stage

abbrev pub joined : List (List ℕ) → List ℕ
joined [] = []
joined (piece ∷ pieces) = piece ++ joined pieces

-- only what is cut off goes on with the next piece
abbrev pub unless_ended : List ℕ → Stage → Fed → Fed
unless_ended kept (cut fault) next = next
unless_ended kept (whole v size) next = record { kept = kept; now = whole v size }
unless_ended kept (wrong fault) next = record { kept = kept; now = wrong fault }

unfoldable pub fed : Tree → List ℕ → List (List ℕ) → Fed
fed t kept [] = record { kept = kept; now = stage t kept }
fed t kept (piece ∷ pieces) = unless_ended (kept ++ piece) (stage t (kept ++ piece)) (fed t (kept ++ piece) pieces)
