-- What a call of the program does, for every input, every list of failing calls, and every status.
use Rattle.std.specs.Prelude.{◌≡◌, ◌&&◌, ℕ, List, [], ◌∷◌, Option, Some, None, if◌then◌else◌, codes}
use Rattle.std.specs.Str.{bytes_eq}
use Rattle.command_defs.specs.declared.Status.{Status}
use Rattle.command_defs.specs.Ends.{UsageMeets}
use Rattle.command_defs.specs.Outside.{OutsideAt}
use Rattle.command_run.specs.declared.end.RunEnd.{RunEnd}
use Rattle.command_run.specs.Ends.{run_status}
use Rattle.command_run.specs.Run.{Setting, run_of, RunMeets}
use Rattle.command_run.specs.generate.Script.{script}
use Rattle.command_run.specs.generate.Generate.{GenerateMeets}
use Rattle.commands.specs.declared.command_check.end.CheckEnd.{CheckEnd}
use Rattle.commands.specs.command_check.Report.{check_status, CheckMeets}
use Rattle.profile.specs.declared.version.Version.TheVariants.{One, Two}
use Rattle.commands.specs.command_profile.Written.{ProfileMeets, WritesWholly}
use Rattle.scenario_text.specs.script_words.Forms.{sn_bits_of, number_of}
use Rattle.gnb_types.specs.declared.names.SnBits.{SnBits}
use Rattle.command_bearers.specs.declared.command_um.config.UmConfig.{UmConfig}
use Rattle.command_bearers.specs.declared.script_word.end.ScriptEnd.{ScriptEnd}
use Rattle.command_bearers.specs.script_word.Ends.{script_status}
use Rattle.command_bearers.specs.command_um.Run.{UmMeets}
use Rattle.command_bearers.specs.declared.command_dup.config.DupConfig.{DupConfig}
use Rattle.command_bearers.specs.command_dup.Run.{DupMeets}
use Rattle.command_values.specs.declared.way.Way.TheVariants.{Encode, Decode}
use Rattle.command_values.specs.declared.end.ValuesEnd.{ValuesEnd}
use Rattle.command_values.specs.Ends.{values_status}
use Rattle.command_values.specs.Values.{Job, job_of, ValuesMeet}
use Rattle.message_codec_defs.specs.Codecs.{octets_of_message}
use Rattle.command_verify.specs.declared.end.VerifyEnd.{VerifyEnd}
use Rattle.command_verify.specs.Ends.{verify_status}
use Rattle.command_verify.specs.Verify.{VerifyMeets}
use Rattle.scenario_cli.specs.declared.top.Form.{Form}
use Rattle.scenario_cli.specs.declared.top.Form.TheVariants as forms

-- the one word of a form of the program
abbrev pub form_of_one : List ℕ → Form
form_of_one word =
    if bytes_eq word (codes "run") then forms.Run else (
    if bytes_eq word (codes "check") then forms.Check else (
    if bytes_eq word (codes "profile") then forms.Profile One else (
    if bytes_eq word (codes "verify") then forms.Verify else forms.Other)))

-- the two words after `um`: 12 or 18 bits of a sequence number, and 1 to 1000 ticks of the timer
abbrev pub um_form_with : Option SnBits → Option ℕ → Form
um_form_with (Some sn) (Some ticks) = forms.Um (record { sn = sn; ticks = ticks })
um_form_with (Some sn) None = forms.Other
um_form_with None ticks = forms.Other

abbrev pub um_form : List ℕ → List ℕ → Form
um_form bits ticks = um_form_with (sn_bits_of bits) (number_of 1 1000 ticks)

-- the two words after `duplicate`: 12 or 18 bits of a sequence number, and a quota of 4 to 4,096 packets
abbrev pub dup_form_with : Option SnBits → Option ℕ → Form
dup_form_with (Some sn) (Some quota) = forms.Dup (record { sn = sn; quota = quota })
dup_form_with (Some sn) None = forms.Other
dup_form_with None quota = forms.Other

abbrev pub dup_form : List ℕ → List ℕ → Form
dup_form bits quota = dup_form_with (sn_bits_of bits) (number_of 4 4096 quota)

-- the word after `generate`: 1 to 100,000 packets
abbrev pub generate_form_with : Option ℕ → Form
generate_form_with (Some packets) = forms.Generate packets
generate_form_with None = forms.Other

abbrev pub generate_form : List ℕ → Form
generate_form packets = generate_form_with (number_of 1 100000 packets)

-- the word before the name of a type: `encode` or `decode`
abbrev pub values_form : List ℕ → Form
values_form word =
    if bytes_eq word (codes "encode") then forms.Values Encode
    else (if bytes_eq word (codes "decode") then forms.Values Decode else forms.Other)

-- the name of the type
abbrev pub type_of : List (List ℕ) → List ℕ
type_of [] = []
type_of (word ∷ []) = []
type_of (word ∷ name ∷ words) = name

-- the words of a form: one, `profile 2`, `generate N`, `encode TYPE`, `decode TYPE`, `um N T`, or `duplicate N Q`
abbrev pub form_of : List (List ℕ) → Form
form_of (word ∷ []) = form_of_one word
form_of (word ∷ number ∷ []) =
    if bytes_eq word (codes "profile") && bytes_eq number (codes "2") then forms.Profile Two else (
    if bytes_eq word (codes "generate") then generate_form number else values_form word)
form_of (word ∷ bits ∷ last ∷ []) =
    if bytes_eq word (codes "um") then um_form bits last else (if bytes_eq word (codes "duplicate") then dup_form bits last else forms.Other)
form_of words = forms.Other

-- with the word `run`, over units that answer so, with this codec of their messages
pub record RunsScript (setting : Setting) (before after : OutsideAt) (status : Status) : Type 0 where
  pub end : RunEnd
  pub status_is : status ≡ run_status end
  pub meets : RunMeets setting before after end

-- with the word `check`
pub record ChecksModule (before after : OutsideAt) (status : Status) : Type 0 where
  pub end : CheckEnd
  pub status_is : status ≡ check_status end
  pub meets : CheckMeets before after end

-- with the word `um`
pub record RunsBearer (config : UmConfig) (before after : OutsideAt) (status : Status) : Type 0 where
  pub end : ScriptEnd
  pub status_is : status ≡ script_status end
  pub meets : UmMeets config before after end

-- with the word `duplicate`
pub record RunsLegs (config : DupConfig) (before after : OutsideAt) (status : Status) : Type 0 where
  pub end : ScriptEnd
  pub status_is : status ≡ script_status end
  pub meets : DupMeets config before after end

-- with the word `verify`: control messages are spelled by the profile
pub record VerifiesText (before after : OutsideAt) (status : Status) : Type 0 where
  pub end : VerifyEnd
  pub status_is : status ≡ verify_status end
  pub meets : VerifyMeets octets_of_message before after end

-- with the word `encode` or `decode`
pub record ConvertsValues (job : Job) (before after : OutsideAt) (status : Status) : Type 0 where
  pub end : ValuesEnd
  pub status_is : status ≡ values_status end
  pub meets : ValuesMeet job before after end

abbrev pub FormMeets : Setting → Form → OutsideAt → OutsideAt → Status → Type 0
FormMeets setting forms.Run before after status = RunsScript setting before after status
FormMeets setting (forms.Generate packets) before after status = GenerateMeets (run_of setting (script packets)) packets before after status
FormMeets setting forms.Check before after status = ChecksModule before after status
FormMeets setting (forms.Profile version) before after status = ProfileMeets version before after status
FormMeets setting (forms.Um config) before after status = RunsBearer config before after status
FormMeets setting (forms.Dup config) before after status = RunsLegs config before after status
FormMeets setting (forms.Values way) before after status = (name : List ℕ) × ConvertsValues (job_of way name) before after status
FormMeets setting forms.Verify before after status = VerifiesText before after status
FormMeets setting forms.Other before after status = UsageMeets before after status

-- with the word `profile` all of the text is written, where no write fails
abbrev pub WritesProfile : Form → OutsideAt → OutsideAt → Status → Type 0
WritesProfile (forms.Profile version) before after status = WritesWholly version before after status
WritesProfile forms.Run before after status = Unit {0}
WritesProfile (forms.Generate packets) before after status = Unit {0}
WritesProfile forms.Check before after status = Unit {0}
WritesProfile (forms.Um config) before after status = Unit {0}
WritesProfile (forms.Dup config) before after status = Unit {0}
WritesProfile (forms.Values way) before after status = Unit {0}
WritesProfile forms.Verify before after status = Unit {0}
WritesProfile forms.Other before after status = Unit {0}
