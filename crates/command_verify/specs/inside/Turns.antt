-- Internal: what reading and judging one line does.
use Rattle.std.specs.Prelude.{◌≡◌, ◌≤◌, ◌+◌, ℕ, List, [], length, Option, Some, None, Result, Ok, Err}
use Rattle.std.specs.Io.KnownBytes.{IsAtEnd}
use Rattle.gnb_base.specs.Outside.{SourceAt}
use Rattle.gnb_base.specs.Reading.{Reading, input_limit}
use Rattle.transcript_defs.specs.declared.line.TextLine.{TextLine}
use Rattle.transcript_defs.specs.Rules.{Spelling}
use Rattle.transcript_check.specs.declared.checker.CheckError.{CheckError}
use Rattle.transcript_check.specs.declared.checker.CheckError.TheVariants as errors
use Rattle.transcript_check.specs.Steps.{Progress, going, FinishMeets}
use Rattle.command_defs.specs.declared.CommonEnd.TheVariants.{Memory}
use Rattle.command_defs.specs.input_defs.Faults.{NoReadFailed}
use Rattle.command_defs.specs.input_defs.Split.{input_split, rest_of, TakesInput}
use Rattle.command_defs.specs.input_defs.Standing.{StandsAfter}
use Rattle.command_verify.specs.declared.end.VerifyEnd.{VerifyEnd}
use Rattle.command_verify.specs.declared.end.VerifyEnd.TheVariants.{Sound, Unsound, Common}
use Rattle.command_verify.specs.Verify.{AreKept, Judges}

-- how judging ends where the checker refuses the line at a place, or is out of memory
abbrev pub end_of_check : CheckError → ℕ → VerifyEnd
end_of_check (errors.Unsound rule) place = Unsound place rule
end_of_check errors.Memory place = Common Memory

-- ---- so far

-- the reader, the source and the checker at one moment, and how many lines were judged
pub record JudgedAt : Type 0 where
  pub reading : Reading
  pub source : SourceAt
  pub progress : Progress
  pub count : ℕ

abbrev pub judged_at : Reading → SourceAt → Progress → ℕ → JudgedAt
judged_at reading source progress count = record { reading = reading; source = source; progress = progress; count = count }

-- The lines that were handed out keep every rule, and the checker goes on after them.
pub record SoFar (encode : Spelling) (first : SourceAt) (now : JudgedAt) : Type 0 where
  pub taken : List ℕ
  pub lines : List (List ℕ)
  pub past : List TextLine
  pub stands : StandsAfter first now.source now.reading taken lines
  pub kept : AreKept encode past lines
  pub goes : now.progress ≡ going past
  pub counted : now.count ≡ length lines
  pub bounded : now.count ≤ input_limit

-- the same where the input has ended
pub record EndsThere (encode : Spelling) (first : SourceAt) (now : JudgedAt) : Type 0 where
  pub taken : List ℕ
  pub lines : List (List ℕ)
  pub past : List TextLine
  pub takes : TakesInput first now.source (input_split taken lines [])
  pub at_end : IsAtEnd (rest_of first now.source)
  pub reads : NoReadFailed first now.source
  pub kept : AreKept encode past lines
  pub goes : now.progress ≡ going past
  pub counted : now.count ≡ length lines

-- one line more, with this number; or the end of the input, or why judging ends
abbrev pub TurnMeets : Spelling → SourceAt → JudgedAt → Result (Option ℕ) VerifyEnd → Type 0
TurnMeets encode first now (Ok None) = EndsThere encode first now
TurnMeets encode first now (Ok (Some number)) = SoFar encode first (record now { count = number })
TurnMeets encode first now (Err end) = Judges encode first now.source end

-- ---- the end of the text

-- after so many lines the checker said that the text may end, or not
abbrev pub Finishes : Progress → ℕ → VerifyEnd → Type 0
Finishes progress count (Sound lines) = FinishMeets progress (Ok lines)
Finishes progress count (Unsound place rule) = FinishMeets progress (Err (errors.Unsound rule)) × (place ≡ count + 1)
Finishes progress count (Common Memory) = FinishMeets progress (Err errors.Memory)
Finishes progress count (Common end) = ⊥
