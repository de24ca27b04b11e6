-- Whole runs of a line reader: calls of `next`, one after another.
use Rattle.std.specs.Prelude.{◌≡◌, ℕ, List, [], ◌∷◌, ◌++◌, map, length, Option, Some, None, Result, Ok, Err}
use Rattle.std.specs.List.{flat_map}
use Rattle.gnb_base.specs.declared.lines.Line.{Line}
use Rattle.gnb_base.specs.declared.lines.ReadPhase.TheVariants.{Going, Ended}
use Rattle.gnb_base.specs.declared.lines.ReadError.{ReadError}
use Rattle.gnb_base.specs.Outside.{SourceAt}
use Rattle.gnb_base.specs.Lines.{lines_of}
use Rattle.gnb_base.specs.Reading.{Reading, NextMeets}

-- a call: its source before and after it, and what it answered
pub record Call : Type 0 where
  pub before : SourceAt
  pub after : SourceAt
  pub result : Result (Option Line) ReadError

-- the line that an answer hands out
abbrev pub line_in : Result (Option Line) ReadError → List Line
line_in (Ok (Some line)) = line ∷ []
line_in (Ok None) = []
line_in (Err e) = []

abbrev pub texts : List Line → List (List ℕ)
texts lines = map (λ l. l.text) lines

abbrev pub lines_handed_out : List Call → List Line
lines_handed_out calls = flat_map (λ c. line_in c.result) calls

-- calls from an old reader to a new one took these bytes
abbrev pub Run : Reading → List Call → List ℕ → Reading → Type 0
Run old [] taken new = (taken ≡ []) × (new ≡ old)
Run old (c ∷ calls) taken new =
    (mid : Reading) × (m : NextMeets old mid c.before c.after c.result) × (rest : List ℕ)
    × (taken ≡ m.taken ++ rest) × Run mid calls rest new

-- How far a reader is, which handed out these lines of the bytes that it took: while it goes on, the lines of these bytes
-- are those, and then the lines of the kept bytes, whatever may follow them; at the end they are those.
pub record Progress (r : Reading) (taken : List ℕ) (lines : List (List ℕ)) : Type 0 where
  pub going : r.phase ≡ Going → (more : List ℕ)
      → lines_of (taken ++ more) ≡ lines ++ lines_of (r.kept ++ more)
  pub ended : r.phase ≡ Ended → lines_of taken ≡ lines
  pub bytes : length taken ≡ r.taken
  pub count : r.phase ≡ Going → length lines ≡ r.lines
