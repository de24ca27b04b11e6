-- What is done with a whole input whose bytes are reported, where no read and no write fails.
use Rattle.std.specs.Prelude.{◌≡◌, ◌≤◌, ◌+◌, ◌-◌, ◌⊎◌, ℕ, List, [], ◌∷◌, ◌++◌, length, take, Some, codes}
use Rattle.std.specs.List.{AllByRecursion}
use Rattle.gnb_base.specs.Lines.{lines_of}
use Rattle.gnb_base.specs.Outside.{SinkAt}
use Rattle.gnb_base.specs.Reading.{input_limit}
use Rattle.command_defs.specs.input_defs.Split.{joined}
use Rattle.asn1_syntax.specs.declared.types.definition.TypeId.{TypeId}
use Rattle.asn1_syntax.specs.declared.assignments.assignment.Syntax.{Syntax}
use Rattle.asn1_defs.specs.Targets.{find_type}
use Rattle.profile.specs.declared.version.Version.{Version}
use Rattle.profile.specs.profile_module.Profiles.{IsBuiltin}
use Rattle.commands.specs.input_module.Header.{builtin_line}
use Rattle.commands.specs.input_module.Text.{IsClosed, IsUnclosed, IsOneModule}
use Rattle.command_defs.specs.declared.Status.{Status}
use Rattle.command_defs.specs.Outside.{OutsideAt, NoneFailed}
use Rattle.command_defs.specs.Output.{Prints}
use Rattle.command_values.specs.declared.answer.Wrong.{Wrong}
use Rattle.command_values.specs.Answers.{IsWrong, AreAnswered}
use Rattle.command_values.specs.Values.{Job}

abbrev pub text_line : List ℕ
text_line = codes "module text"

-- the lines of the input are the header of a version of the profile, which is this module, and then these lines
pub record NamesProfile (input : List ℕ) (m : Syntax) (lines : List (List ℕ)) : Type 0 where
  pub version : Version
  pub parts : lines_of input ≡ builtin_line version ∷ lines
  pub is : IsBuiltin version (record { syntax = m; version = version })

-- They are the header `module text`, the lines of a text up to and with the first `END` or to the input's end, and then these lines; the
-- text is this module.
pub record GivesText (input : List ℕ) (m : Syntax) (lines : List (List ℕ)) : Type 0 where
  pub body : List (List ℕ)
  pub text : List ℕ
  pub parts : lines_of input ≡ text_line ∷ (body ++ lines)
  pub whole : IsClosed body ⊎ (IsUnclosed body × (lines ≡ []))
  pub octets : text ≡ take (length input - (length text_line + 1)) (joined body)
  pub is : IsOneModule text m

-- none of the lines is refused
abbrev pub AreAccepted : Job → Syntax → ℕ → List (List ℕ) → Type 0
AreAccepted job m id lines = AllByRecursion (λ line. (wrong : Wrong) → IsWrong job.way m id line wrong → ⊥) lines

-- The input is a whole one: its module has a type of the name, and each further line is of a value of it.
pub record IsWhole (job : Job) (input : List ℕ) (m : Syntax) (id : TypeId) (lines : List (List ℕ)) : Type 0 where
  pub within : length input ≤ input_limit
  pub given : NamesProfile input m lines ⊎ GivesText input m lines
  pub has : find_type job.name m.assignments ≡ Some id
  pub accepted : AreAccepted job m id.number lines

-- each line was answered, and all was written
pub record AnswersEach (job : Job) (m : Syntax) (id : ℕ) (lines : List (List ℕ)) (sinks : SinkAt × SinkAt) : Type 0 where
  pub texts : List (List ℕ)
  pub are : AreAnswered job.way m id lines texts
  pub prints : Prints sinks.0 sinks.1 (joined texts)

-- or memory ran out
abbrev pub AnswersWholly : Job → OutsideAt → OutsideAt → Status → Type 0
AnswersWholly job before after status =
    (bytes : List ℕ) (m : Syntax) (id : TypeId) (lines : List (List ℕ)) → before.source.left ≡ Some bytes
    → IsWhole job bytes m id lines → NoneFailed before after
    → ((status.code ≡ 0) × AnswersEach job m id.number lines (before.sink, after.sink)) ⊎ (status.code ≡ 9)
