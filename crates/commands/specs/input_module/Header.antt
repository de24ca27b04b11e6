-- The header of an input: which module the word works with.
use Rattle.std.specs.Prelude.{◌&&◌, ◌||◌, List, ℕ, Bool, true, false, Result, Ok, Err, codes, nat_eq, if◌then◌else◌}
use Rattle.std.specs.List.{starts_with}
use Rattle.std.specs.Str.{bytes_eq}
use Rattle.scenario_text.specs.declared.script_words.reason.TextReason.{TextReason}
use Rattle.scenario_text.specs.declared.script_words.reason.TextReason.TheVariants.{Word, Extra}
use Rattle.profile.specs.declared.version.Version.{Version}
use Rattle.profile.specs.declared.version.Version.TheVariants.{One, Two}
use Rattle.commands.specs.declared.input_module.header.ModuleHeader.{ModuleHeader}
use Rattle.commands.specs.declared.input_module.header.ModuleHeader.TheVariants.{Text, Builtin}

abbrev pub is_two : Version → Bool
is_two One = false
is_two Two = true

-- the header of the profile, version 1 or 2
abbrev pub builtin_line : Version → List ℕ
builtin_line One = codes "module builtin"
builtin_line Two = codes "module builtin 2"

-- `module text`, `module builtin`, and, for a word that takes version 2, `module builtin 2`; a further word, also an empty one, is one
-- too many
abbrev pub header_of : (newest : Version) → List ℕ → Result ModuleHeader TextReason
header_of newest line =
    if bytes_eq line (codes "module text") then Ok Text else (
    if bytes_eq line (builtin_line One) then Ok (Builtin One) else (
    if is_two newest && bytes_eq line (builtin_line Two) then Ok (Builtin Two) else (
    if starts_with nat_eq line (codes "module text ") || starts_with nat_eq line (codes "module builtin ") then Err Extra else Err Word)))
