-- How judging a transcript ends, what status reports it, and what is written then.
use Rattle.std.specs.Prelude.{◌≡◌, ℕ, List, [], ◌∷◌, ◌++◌, Some, codes}
use Rattle.std.specs.Fmt.{decimal}
use Rattle.gnb_base.specs.Outside.{SourceAt}
use Rattle.scenario_text.specs.declared.line.OutLine.{OutLine}
use Rattle.scenario_text.specs.Print.{◌then◌, print}
use Rattle.transcript_defs.specs.declared.rule.Rule.{Rule}
use Rattle.transcript_defs.specs.Rules.{rule_number}
use Rattle.command_defs.specs.declared.Status.{Status}
use Rattle.command_defs.specs.input_defs.Near.{StopsNear}
use Rattle.command_defs.specs.Statuses.{done_status, common_status, stop_line, common_last_lines}
use Rattle.command_verify.specs.declared.end.VerifyEnd.{VerifyEnd}
use Rattle.command_verify.specs.declared.end.VerifyEnd.TheVariants.{Sound, Unsound, Common}

-- the line at a place breaks this rule first, or the text ends there too early
abbrev pub unsound_status : ℕ → Rule → Status
unsound_status place rule = record { code = 12; place = place; reason = rule_number rule }

abbrev pub verify_status : VerifyEnd → Status
verify_status (Sound lines) = done_status
verify_status (Unsound place rule) = unsound_status place rule
verify_status (Common end) = common_status end

-- `sound N`, or `unsound LINE RULE`; an end that each word has has no line of its own
unfoldable pub verdict_line : VerifyEnd → List ℕ
verdict_line (Sound lines) = codes "sound" then decimal lines ++ 10 ∷ []
verdict_line (Unsound place rule) = codes "unsound" then decimal place then decimal (rule_number rule) ++ 10 ∷ []
verdict_line (Common end) = []

-- a `stop` line, but for a sound text, after a write that failed, and out of memory
abbrev pub verify_last_lines : VerifyEnd → List OutLine
verify_last_lines (Sound lines) = []
verify_last_lines (Unsound place rule) = stop_line (unsound_status place rule) ∷ []
verify_last_lines (Common end) = common_last_lines end

abbrev pub verdict_text : VerifyEnd → List ℕ
verdict_text end = verdict_line end ++ print (verify_last_lines end)

-- At a line that breaks a rule, of a source that reported its bytes fewer were taken past the line's end than one read asks for.
abbrev pub StopsAtVerdict : SourceAt → SourceAt → Status → Type 0
StopsAtVerdict before after status =
    (bytes : List ℕ) → before.left ≡ Some bytes → status.code ≡ 12 → StopsNear bytes after.left status.place
