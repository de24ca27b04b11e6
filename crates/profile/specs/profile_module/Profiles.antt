-- The profile's module as a value, and what `agrees` says of a module.
use Rattle.std.specs.Prelude.{◌≡◌, ℕ, List, length, true, Some, Result, Ok, Err}
use Rattle.asn1_tokens.specs.Words.{is_text}
use Rattle.asn1_syntax.specs.declared.assignments.assignment.Syntax.{Syntax}
use Rattle.asn1_defs.specs.Readings.{Reads}
use Rattle.asn1_defs.specs.Targets.{type_ids}
use Rattle.profile.specs.declared.version.Version.{Version}
use Rattle.profile.specs.declared.version.Version.TheVariants.{One}
use Rattle.profile.specs.Versions.{number_of, text_of}
use Rattle.message_defs.specs.profile_defs.Forms.{Form}
use Rattle.message_defs.specs.profile_defs.Profile.{profile_types, module_name}
use Rattle.message_defs.specs.profile_defs.Agreement.{differs, Agrees}
use Rattle.profile.specs.declared.profile_module.agreement.AgreeError.{AgreeError}
use Rattle.profile.specs.declared.profile_module.agreement.AgreeError.TheVariants.{Differs, Memory}

-- the types of a version
abbrev pub types_of : Version → List Form
types_of version = profile_types (number_of version)

-- a module that has exactly the types of a version
pub record ProfileAt : Type 0 where
  pub syntax : Syntax
  pub version : Version

-- the profile of this version, as its text gives it
pub record IsBuiltin (version : Version) (profile : ProfileAt) : Type 0 where
  pub version-is : profile.version ≡ version
  pub octets : ℕ
  pub reads : Reads (text_of version) octets profile.syntax
  pub agrees : Agrees (types_of version) profile.syntax
  pub name : is_text profile.syntax.name module_name ≡ true
  pub count : length (type_ids profile.syntax.assignments) ≡ 53

-- A module agrees, and is version 1 of the profile; or this is the first name by which it differs. Out of memory is free.
abbrev pub IsAgreementOf : Syntax → Result ProfileAt AgreeError → Type 0
IsAgreementOf m (Ok profile) = (profile ≡ record { syntax = m; version = One }) × Agrees (profile_types 1) m
IsAgreementOf m (Err (Differs name)) = differs (profile_types 1) m ≡ Some name
IsAgreementOf m (Err Memory) = Unit {0}
