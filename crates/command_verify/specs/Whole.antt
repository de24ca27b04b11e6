-- What is done with a whole input whose bytes are reported, where no read and no write fails.
use Rattle.std.specs.Prelude.{◌≡◌, ◌≤◌, ◌⊎◌, ℕ, List, length, Some}
use Rattle.gnb_base.specs.Lines.{lines_of}
use Rattle.gnb_base.specs.Outside.{SinkAt}
use Rattle.gnb_base.specs.Reading.{input_limit}
use Rattle.transcript_defs.specs.declared.rule.Rule.{Rule}
use Rattle.transcript_defs.specs.Rules.{Spelling}
use Rattle.transcript_defs.specs.Sound.{Sound, IsUnsound}
use Rattle.command_defs.specs.declared.Status.{Status}
use Rattle.command_defs.specs.Outside.{OutsideAt, NoneFailed}
use Rattle.command_defs.specs.Output.{Prints}
use Rattle.command_verify.specs.declared.end.VerifyEnd.{VerifyEnd}
use Rattle.command_verify.specs.declared.end.VerifyEnd.TheVariants as ends
use Rattle.command_verify.specs.Ends.{verify_status, verdict_text}

-- this verdict was reported, and all of it written; or memory ran out
abbrev pub Reports : SinkAt → SinkAt → VerifyEnd → Status → Type 0
Reports before after verdict status =
    ((status ≡ verify_status verdict) × Prints before after (verdict_text verdict)) ⊎ (status.code ≡ 9)

-- sound lines are reported so, and others by the first place at which they break a rule, and the least such rule
pub record ReportsLines (encode : Spelling) (before after : SinkAt) (lines : List (List ℕ)) (status : Status) : Type 0 where
  pub sound : Sound encode lines → Reports before after (ends.Sound (length lines)) status
  pub unsound : (place : ℕ) (rule : Rule) → IsUnsound encode lines place rule → Reports before after (ends.Unsound place rule) status

abbrev pub VerifiesWholly : Spelling → OutsideAt → OutsideAt → Status → Type 0
VerifiesWholly encode before after status =
    (bytes : List ℕ) → before.source.left ≡ Some bytes → length bytes ≤ input_limit → NoneFailed before after
    → ReportsLines encode before.sink after.sink (lines_of bytes) status
