-- What the word `verify` does: the lines of the input are judged as a transcript, and what that came to is written.
use Rattle.std.specs.Prelude.{◌≡◌, ◌+◌, ℕ, List, ◌∷◌, ◌++◌, length, Option}
use Rattle.std.specs.List.{AllByRecursion}
use Rattle.gnb_base.specs.Outside.{SourceAt, SinkAt}
use Rattle.transcript_defs.specs.declared.line.TextLine.{TextLine}
use Rattle.transcript_defs.specs.declared.rule.Rule.{Rule}
use Rattle.transcript_defs.specs.Lines.{IsProper}
use Rattle.transcript_defs.specs.Rules.{Spelling}
use Rattle.transcript_defs.specs.Sound.{AreSound, texts_of, Sound, IsUnsound}
use Rattle.command_defs.specs.declared.CommonEnd.TheVariants.{ReadFault, TooLong, WriteFault, Memory}
use Rattle.command_defs.specs.input_defs.Split.{InputSplit, rest_of, TakesInput}
use Rattle.command_defs.specs.input_defs.Ends.{ComesNext, IsReadToEnd, IsReadFault, IsTooLong}
use Rattle.command_defs.specs.input_defs.Faults.{NoReadFailed, LastReadFailed}
use Rattle.command_defs.specs.Outside.{OutsideAt, CallsTo}
use Rattle.command_defs.specs.Output.{Prints, PrintsFront}
use Rattle.command_verify.specs.declared.end.VerifyEnd.{VerifyEnd}
use Rattle.command_verify.specs.declared.end.VerifyEnd.TheVariants as ends
use Rattle.command_verify.specs.Ends.{verify_status, verdict_text}

-- ---- what the lines are

-- these texts are the texts of these lines, the newest of which stands first, and each line keeps every rule after those before it
pub record AreKept (encode : Spelling) (past : List TextLine) (texts : List (List ℕ)) : Type 0 where
  pub texts_are : texts ≡ texts_of past
  pub proper : AllByRecursion IsProper past
  pub sound : AreSound encode past

-- no rule is broken in these texts so far
abbrev pub KeepRules : Spelling → List (List ℕ) → Type 0
KeepRules encode texts = (past : List TextLine) × AreKept encode past texts

-- the input has ended, and is sound
pub record IsSoundInput (encode : Spelling) (left : Option (List ℕ)) (split : InputSplit) (lines : ℕ) : Type 0 where
  pub all : IsReadToEnd left split
  pub sound : Sound encode split.lines
  pub counted : lines ≡ length split.lines

-- whatever follows the line that comes next, this rule is the first that is broken, in this line
pub record BreaksNext (encode : Spelling) (left : Option (List ℕ)) (split : InputSplit) (place : ℕ) (rule : Rule) : Type 0 where
  pub line : List ℕ
  pub next : ComesNext left split.kept line
  pub at : place ≡ length split.lines + 1
  pub unsound : (more : List (List ℕ)) → IsUnsound encode (split.lines ++ line ∷ more) place rule

-- the input has ended, and this rule is the first that is broken, one past its lines
pub record BreaksAtEnd (encode : Spelling) (left : Option (List ℕ)) (split : InputSplit) (place : ℕ) (rule : Rule) : Type 0 where
  pub all : IsReadToEnd left split
  pub at : place ≡ length split.lines + 1
  pub unsound : IsUnsound encode split.lines place rule

pub data IsUnsoundInput (encode : Spelling) (left : Option (List ℕ)) (split : InputSplit) (place : ℕ) (rule : Rule) : Type 0 where
  AtNext : BreaksNext encode left split place rule → IsUnsoundInput encode left split place rule
  AtEnd : BreaksAtEnd encode left split place rule → IsUnsoundInput encode left split place rule

-- ---- how judging ends, after the lines that were handed out

-- What the input is. Lines that were handed out are judged before a byte too many is reported, or a read that failed; out of memory is
-- unspecified. Judging writes nothing.
abbrev pub VerdictMeets : Spelling → Option (List ℕ) → InputSplit → VerifyEnd → Type 0
VerdictMeets encode left split (ends.Sound lines) = IsSoundInput encode left split lines
VerdictMeets encode left split (ends.Unsound place rule) = IsUnsoundInput encode left split place rule
VerdictMeets encode left split (ends.Common (ReadFault taken)) = KeepRules encode split.lines × IsReadFault split taken
VerdictMeets encode left split (ends.Common TooLong) = KeepRules encode split.lines × IsTooLong split
VerdictMeets encode left split (ends.Common WriteFault) = ⊥
VerdictMeets encode left split (ends.Common Memory) = Unit {0}

-- a read failed exactly where judging ended so
abbrev pub FaultsOfVerdict : SourceAt → SourceAt → VerifyEnd → Type 0
FaultsOfVerdict before after (ends.Common (ReadFault taken)) = LastReadFailed before after
FaultsOfVerdict before after verdict = NoReadFailed before after

-- what was taken from the source, and what judging its lines came to
pub record Judges (encode : Spelling) (before after : SourceAt) (verdict : VerifyEnd) : Type 0 where
  pub split : InputSplit
  pub input : TakesInput before after split
  pub meets : VerdictMeets encode (rest_of before after) split verdict
  pub reads : FaultsOfVerdict before after verdict

-- ---- what is written

-- The text of the verdict was written; or a front of it where a write failed; or nothing, out of memory.
pub data PrintsVerdict (before after : SinkAt) (verdict end : VerifyEnd) : Type 0 where
  Written : end ≡ verdict → Prints before after (verdict_text verdict) → PrintsVerdict before after verdict end
  Cut : end ≡ ends.Common WriteFault → PrintsFront before after (verdict_text verdict) → PrintsVerdict before after verdict end
  Unwritten : end ≡ ends.Common Memory → after ≡ before → PrintsVerdict before after verdict end

-- what judging came to, what was written of it, and where a call failed
pub record VerifyMeets (encode : Spelling) (before after : OutsideAt) (end : VerifyEnd) : Type 0 where
  pub verdict : VerifyEnd
  pub judges : Judges encode before.source after.source verdict
  pub prints : PrintsVerdict before.sink after.sink verdict end
  pub calls : CallsTo before after (verify_status end).code
