-- What the calls of a checker answer, and how they change what it took.
use Rattle.std.specs.Prelude.{◌≡◌, ℕ, ◌+◌, ◌<◌, List, [], ◌∷◌, length, Result, Ok, Err}
use Rattle.unit_defs.specs.Ways.{Message as ControlMessage}
use Rattle.transcript_defs.specs.declared.line.TextLine.{TextLine}
use Rattle.transcript_defs.specs.declared.rule.Rule.{Rule}
use Rattle.transcript_defs.specs.declared.rule.Rule.TheVariants as rules
use Rattle.transcript_defs.specs.Lines.{IsLineOf}
use Rattle.transcript_defs.specs.Rules.{Spelling, AtPlace, a_line, Keeps, IsFinished, rule_number}
use Rattle.transcript_defs.specs.Sound.{Stands}
use Rattle.transcript_check.specs.declared.checker.CheckError.{CheckError}
use Rattle.transcript_check.specs.declared.checker.CheckError.TheVariants.{Unsound, Memory}

-- the octets are the spelling of some control message
abbrev pub IsSpelling : Spelling → List ℕ → Type 0
IsSpelling encode octets = (control : ControlMessage (List ℕ)) × (encode control ≡ octets)

-- a checker that took these lines, the newest first, each of which keeps every rule; or one that refused the next, or is out of memory
pub data Progress : Type 0 where
  going : (past : List TextLine) → Progress
  refused : (past : List TextLine) → (rule : Rule) → Progress
  spent : Progress

-- the text is a line that keeps every rule after the lines that were taken
pub record KeepsAll (encode : Spelling) (past : List TextLine) (text : List ℕ) (line : TextLine) : Type 0 where
  pub is_line : IsLineOf text line
  pub keeps : (rule : Rule) → Keeps encode rule past (a_line line)

-- what stands at the front of these texts breaks the rule after the lines that were taken, and keeps those before it
pub record BreaksRule (encode : Spelling) (past : List TextLine) (texts : List (List ℕ)) (rule : Rule) : Type 0 where
  pub at : AtPlace
  pub stands : Stands texts at
  pub broken : Keeps encode rule past at → ⊥
  pub least : (other : Rule) → rule_number other < rule_number rule → Keeps encode other past at

abbrev pub LineMeets : Spelling → List ℕ → Progress → Progress → Result Unit CheckError → Type 0
LineMeets encode text (going past) after (Ok done) = (line : TextLine) × KeepsAll encode past text line × (after ≡ going (line ∷ past))
LineMeets encode text (going past) after (Err (Unsound rule)) = BreaksRule encode past (text ∷ []) rule × (after ≡ refused past rule)
LineMeets encode text (refused past rule) after (Err (Unsound other)) = (other ≡ rule) × (after ≡ refused past rule)
LineMeets encode text before after (Err Memory) = after ≡ spent
LineMeets encode text before after result = ⊥

-- `finish` answers the number of lines where the text may end after them
abbrev pub FinishMeets : Progress → Result ℕ CheckError → Type 0
FinishMeets (going past) (Ok lines) = IsFinished past × (lines ≡ length past)
FinishMeets (going past) (Err (Unsound rule)) = (rule ≡ rules.End) × (IsFinished past → ⊥)
FinishMeets (refused past rule) (Err (Unsound other)) = other ≡ rule
FinishMeets spent (Err Memory) = Unit {0}
FinishMeets before result = ⊥
