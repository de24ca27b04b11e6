-- What a line reader is seen as, and what a call of it does.
use Rattle.std.specs.Prelude.{◌≡◌, ◌≢◌, ◌≤◌, ◌<◌, ◌+◌, ◌-◌, ◌⊎◌, ℕ, Bool, true, List, [], ◌∷◌, ◌++◌, length, Option, Some, None, Result, Ok, Err}
use Rattle.std.specs.Io.KnownBytes.{Consumes, IsAtEnd}
use Rattle.gnb_base.specs.declared.lines.ReadPhase.{ReadPhase}
use Rattle.gnb_base.specs.declared.lines.ReadPhase.TheVariants.{Going, Ended, TooLong, Failed}
use Rattle.gnb_base.specs.declared.lines.ReadError.{ReadError}
use Rattle.gnb_base.specs.declared.lines.ReadError.TheVariants as errors
use Rattle.gnb_base.specs.declared.lines.Line.{Line}
use Rattle.gnb_base.specs.Outside.{SourceAt, Rose}
use Rattle.gnb_base.specs.Lines.{line_feed, HasNoLf, past_line}

-- how many bytes of an input are read at most as lines, and how many one read asks for at most
abbrev pub input_limit : ℕ
input_limit = 16777216

abbrev pub piece_size : ℕ
piece_size = 4096

-- a line reader: the bytes that it took and didn't hand out, how many it took in all, how many lines it handed out,
-- and what it does from here on
pub record Reading : Type 0 where
  pub kept : List ℕ
  pub taken : ℕ
  pub lines : ℕ
  pub phase : ReadPhase

-- a new one
abbrev pub fresh : Reading
fresh = record { kept = []; taken = 0; lines = 0; phase = Going }

-- how many bytes it may still hand out at most: falls with each line
abbrev pub still_to_come : Reading → ℕ
still_to_come r = input_limit + 1 - r.taken + length r.kept

-- A line with its LF is handed out.
pub record EndsInLf (old new : Reading) (taken text : List ℕ) : Type 0 where
  pub phase : new.phase ≡ Going
  pub split : old.kept ++ taken ≡ text ++ line_feed ∷ new.kept

-- The last line is handed out, which lacks its LF.
pub record EndsInput (old new : Reading) (left : Option (List ℕ)) (taken text : List ℕ) : Type 0 where
  pub phase : new.phase ≡ Ended
  pub whole : old.kept ++ taken ≡ text
  pub some : text ≢ []
  pub kept : new.kept ≡ []
  pub at_end : IsAtEnd left

-- The next line is handed out.
pub record HandsOut (old new : Reading) (left : Option (List ℕ)) (taken : List ℕ) (line : Line) : Type 0 where
  pub going : old.phase ≡ Going
  pub without_lf : HasNoLf line.text
  pub ends : EndsInLf old new taken line.text ⊎ EndsInput old new left taken line.text
  pub number : line.number ≡ old.lines + 1
  pub lines : new.lines ≡ line.number
  pub counted : line.number ≤ new.taken
  pub within : new.taken ≤ input_limit
  -- less than one read asks for is kept after the line
  pub few : length new.kept < piece_size
  pub falls : still_to_come new < still_to_come old

-- The input has ended, and no byte is kept.
pub record IsDone (old new : Reading) (left : Option (List ℕ)) (taken : List ℕ) : Type 0 where
  pub phase : new.phase ≡ Ended
  pub nothing : old.kept ++ taken ≡ []
  pub kept : new.kept ≡ []
  pub lines : new.lines ≡ old.lines
  pub within : new.taken ≤ input_limit
  -- this call saw the end, or an earlier one did
  pub seen : ((old.phase ≡ Going) × IsAtEnd left) ⊎ (old.phase ≡ Ended)

-- A read failed, and the bytes taken before it are kept.
pub record IsFault (old new : Reading) (taken : List ℕ) : Type 0 where
  pub going : old.phase ≡ Going
  pub phase : new.phase ≡ Going
  pub kept : new.kept ≡ old.kept ++ taken
  pub without_lf : HasNoLf new.kept
  pub lines : new.lines ≡ old.lines
  pub within : new.taken ≤ input_limit

-- The byte after the limit was taken, alone and where no whole line was kept, in this call or an earlier one. It is kept with those
-- before it.
pub record IsTooLong (old new : Reading) (taken : List ℕ) : Type 0 where
  pub phase : new.phase ≡ TooLong
  pub kept : new.kept ≡ old.kept ++ taken
  pub at : new.taken ≡ input_limit + 1
  pub lines : new.lines ≡ old.lines
  pub seen : ((old.phase ≡ Going)
      × ((front : List ℕ) × (last : ℕ) × (old.kept ++ taken ≡ front ++ last ∷ []) × HasNoLf front))
      ⊎ (old.phase ≡ TooLong)

-- what a call answered: the reader before and after it, what is left of the source, and the bytes that it took
abbrev pub Answers : Reading → Reading → Option (List ℕ) → List ℕ → Result (Option Line) ReadError
    → Type 0
Answers old new left taken (Ok (Some line)) = HandsOut old new left taken line
Answers old new left taken (Ok None) = IsDone old new left taken
Answers old new left taken (Err errors.ReadFault) = IsFault old new taken
Answers old new left taken (Err errors.TooLong) = IsTooLong old new taken
Answers old new left taken (Err errors.Memory) = (new.phase ≡ Failed)
    × (new.taken ≤ input_limit + 1)

-- The answer ReadFault, and no other, moves the count of faults.
abbrev pub CountsReadFault : {T : Type 0} → ℕ → ℕ → Result T ReadError → Type 0
CountsReadFault before after (Ok value) = after ≡ before
CountsReadFault before after (Err errors.ReadFault) = Rose before after
CountsReadFault before after (Err errors.TooLong) = after ≡ before
CountsReadFault before after (Err errors.Memory) = after ≡ before

-- After ReadFault the last read failed; after every other answer it did so only where it had before.
abbrev pub FailsLast : {T : Type 0} → Bool → Bool → Result T ReadError → Type 0
FailsLast before after (Ok value) = after ≡ true → before ≡ true
FailsLast before after (Err errors.ReadFault) = after ≡ true
FailsLast before after (Err errors.TooLong) = after ≡ true → before ≡ true
FailsLast before after (Err errors.Memory) = after ≡ true → before ≡ true

-- Neither the reader nor the source was touched.
pub record IsUntouched (old new : Reading) (before after : SourceAt) : Type 0 where
  pub reader : new ≡ old
  pub source : after ≡ before

-- a call of `next`: the bytes that it took from the source, and what it answered
pub record NextMeets (old new : Reading) (before after : SourceAt) (result : Result (Option Line) ReadError) : Type 0 where
  pub taken : List ℕ
  pub consumes : Consumes before.left after.left taken
  pub counts : new.taken ≡ old.taken + length taken
  pub answers : Answers old new after.left taken result
  pub faults : CountsReadFault before.faults after.faults result
  pub failed : FailsLast before.failed after.failed result
  -- it reads only where it keeps no whole line
  pub lazy : ((taken ≡ []) × (after ≡ before)) ⊎ HasNoLf old.kept
  -- each read takes at least one byte, or is the last
  pub calls : after.calls ≤ before.calls + length taken + 1
  -- of its bytes, those after the line that it looked for are less than one read asks for
  pub few : length (past_line (old.kept ++ taken)) < piece_size
  -- from the end, from a byte too many and from lack of memory on, no call reads
  pub stays : (old.phase ≡ Going) ⊎ IsUntouched old new before after
