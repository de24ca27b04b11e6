-- Internal: a line reader's fields, and what its steps do.
use Rattle.std.specs.Prelude.{◌≡◌, ◌≢◌, ◌≤◌, ◌<◌, ◌+◌, ◌-◌, ℕ, Bool, true, false, List, [], ◌∷◌, ◌++◌, length, take, drop, Option, Some, None, Result, Ok, Err}
use Rattle.std.specs.Io.KnownBytes.{Consumes, IsAtEnd}
use Rattle.gnb_base.specs.declared.lines.LineReader.TheInside.{Inside}
use Rattle.gnb_base.specs.declared.lines.Line.{Line}
use Rattle.gnb_base.specs.declared.lines.ReadPhase.{ReadPhase}
use Rattle.gnb_base.specs.declared.lines.ReadPhase.TheVariants.{Going, Ended, TooLong, Failed}
use Rattle.gnb_base.specs.declared.lines.ReadError.{ReadError}
use Rattle.gnb_base.specs.declared.lines.ReadError.TheVariants as errors
use Rattle.gnb_types.specs.declared.items.Memory.{Memory}
use Rattle.gnb_base.specs.Outside.{SourceAt}
use Rattle.gnb_base.specs.Lines.{line_feed, HasNoLf, past_line}
use Rattle.gnb_base.specs.Reading.{Reading, NextMeets, CountsReadFault, FailsLast, input_limit, piece_size}

-- the begun line, and then what wasn't looked at of the last piece
abbrev pub reading_of : Inside → Reading
reading_of r = record {
  kept = r.begun.items ++ take (r.stop - r.start) (drop r.start r.piece.items);
  taken = r.taken;
  lines = r.lines;
  phase = r.phase;
}

-- what each phase says of the bytes
abbrev pub PhaseFits : ReadPhase → Reading → Type 0
PhaseFits Going r = r.taken ≤ input_limit
PhaseFits Ended r = (r.taken ≤ input_limit) × (r.kept ≡ [])
PhaseFits TooLong r = r.taken ≡ input_limit + 1
PhaseFits Failed r = r.taken ≤ input_limit + 1

pub record IsSound (r : Inside) : Type 0 where
  pub order : r.start ≤ r.stop
  pub room : r.stop ≤ piece_size
  pub size : length r.piece.items ≡ piece_size
  pub begun : HasNoLf r.begun.items
  pub counted : length r.begun.items + (r.stop - r.start) + r.lines ≤ r.taken
  pub phased : PhaseFits r.phase (reading_of r)

-- A whole line is taken off the kept bytes.
pub record TakesOff (old new : Reading) (line : Line) : Type 0 where
  pub split : old.kept ≡ line.text ++ line_feed ∷ new.kept
  pub without_lf : HasNoLf line.text
  pub number : line.number ≡ old.lines + 1
  pub lines : new.lines ≡ line.number
  pub taken : new.taken ≡ old.taken
  pub phase : new.phase ≡ Going
  pub counted : line.number ≤ new.taken
  pub within : new.taken ≤ input_limit
  pub few : length new.kept < piece_size

abbrev pub TakesLine : Reading → Reading → Result (Option Line) Memory → Type 0
TakesLine old new (Ok (Some line)) = TakesOff old new line
TakesLine old new (Ok None) = HasNoLf old.kept × (new ≡ old)
TakesLine old new (Err e) = (new.phase ≡ Failed) × (new.taken ≡ old.taken)
    × (new.taken ≤ input_limit) × (length (past_line old.kept) < piece_size)

-- The last line is taken, or none is left.
pub record TakesRest (old new : Reading) (line : Line) : Type 0 where
  pub text : line.text ≡ old.kept
  pub some : line.text ≢ []
  pub number : line.number ≡ old.lines + 1
  pub lines : new.lines ≡ line.number
  pub kept : new.kept ≡ []
  pub taken : new.taken ≡ old.taken
  pub phase : new.phase ≡ Ended
  pub counted : line.number ≤ new.taken
  pub within : new.taken ≤ input_limit

pub record TakesNone (old new : Reading) : Type 0 where
  pub nothing : old.kept ≡ []
  pub kept : new.kept ≡ []
  pub lines : new.lines ≡ old.lines
  pub taken : new.taken ≡ old.taken
  pub phase : new.phase ≡ Ended
  pub within : new.taken ≤ input_limit

abbrev pub TakesLast : Reading → Reading → Result (Option Line) Memory → Type 0
TakesLast old new (Ok (Some line)) = TakesRest old new line
TakesLast old new (Ok None) = TakesNone old new
TakesLast old new (Err e) = (new.phase ≡ Failed) × (new.taken ≡ old.taken)
    × (new.taken ≤ input_limit)

-- how one read went: whether bytes came, or why none did
abbrev pub Reads : Reading → Option (List ℕ) → List ℕ → Result Bool ReadError → Type 0
Reads new left piece (Ok true) = (0 < length piece) × (new.phase ≡ Going)
Reads new left piece (Ok false) = (piece ≡ []) × (new.phase ≡ Going) × IsAtEnd left
Reads new left piece (Err errors.ReadFault) = (piece ≡ []) × (new.phase ≡ Going)
Reads new left piece (Err errors.TooLong) = (length piece ≡ 1) × (new.phase ≡ TooLong)
Reads new left piece (Err errors.Memory) = (piece ≡ []) × (new.phase ≡ Failed)

pub record ReadsMore (old new : Reading) (before after : SourceAt) (result : Result Bool ReadError) : Type 0 where
  pub piece : List ℕ
  pub consumes : Consumes before.left after.left piece
  pub calls : after.calls ≤ before.calls + 1
  pub faults : CountsReadFault before.faults after.faults result
  pub failed : FailsLast before.failed after.failed result
  pub kept : new.kept ≡ old.kept ++ piece
  pub taken : new.taken ≡ old.taken + length piece
  pub lines : new.lines ≡ old.lines
  pub fits : PhaseFits new.phase new
  pub reads : Reads new after.left piece result

-- Bytes came, and the reader goes on.
pub record GoesOn (old new : Reading) (before after : SourceAt) : Type 0 where
  pub taken : List ℕ
  pub some : 0 < length taken
  pub consumes : Consumes before.left after.left taken
  pub calls : after.calls ≤ before.calls + length taken
  pub faults : after.faults ≡ before.faults
  pub failed : after.failed ≡ true → before.failed ≡ true
  pub counts : new.taken ≡ old.taken + length taken
  pub without_lf : HasNoLf old.kept
  pub kept : new.kept ≡ old.kept ++ taken
  pub lines : new.lines ≡ old.lines
  pub phase : new.phase ≡ Going
  pub within : new.taken ≤ input_limit

-- what a turn answered, or that another follows
abbrev pub TurnMeets : Reading → Reading → SourceAt → SourceAt
    → Option (Result (Option Line) ReadError) → Type 0
TurnMeets old new before after (Some answer) = NextMeets old new before after answer
TurnMeets old new before after None = GoesOn old new before after
