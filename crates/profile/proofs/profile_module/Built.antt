-- What reading a text of the profile comes to.
use Rattle.std.proofs.Common.{◌≡◌, ℕ, List, length, true, refl, sym, subst}
use Rattle.asn1_syntax.specs.declared.types.fault.ModuleReason.{ModuleReason}
use Rattle.asn1_syntax.specs.declared.assignments.assignment.Syntax.{Syntax}
use Rattle.asn1_defs.specs.Readings.{Reads, WrongText}
use Rattle.asn1_defs.specs.Targets.{type_ids}
use Rattle.asn1_defs.specs.Judgement.{sound}
use Rattle.proof_asn1.proofs.reading.Readings.{one_text}
use Rattle.proof_asn1_modules.proofs.asn1_proof_module.Faults.{never_both}
use Rattle.profile.specs.declared.version.Version.{Version}
use Rattle.profile.specs.declared.version.Version.TheVariants.{One, Two}
use Rattle.profile.specs.declared.text.TheConstants.{PROFILE_TEXT}
use Rattle.profile.specs.declared.text_2.TheConstants.{PROFILE_TEXT_2}
use Rattle.profile.specs.Versions.{text_of}
use Rattle.message_defs.specs.profile_defs.Profile.{profile_types, module_name}
use Rattle.message_defs.specs.profile_defs.Agreement.{Agrees}
use Rattle.asn1_tokens.specs.Words.{is_text}
use Rattle.profile.specs.profile_proof_text.Texts.{IsProfileText}
use Rattle.profile.specs.profile_module.Profiles.{types_of, IsBuiltin}

text_is : (version : Version) → IsProfileText (profile_types 1) PROFILE_TEXT.now → IsProfileText (profile_types 2) PROFILE_TEXT_2.now
    → IsProfileText (types_of version) (text_of version)
unfolding text_of
text_is One a b = a
text_is Two a b = b

module _ (version : Version) (one : IsProfileText (profile_types 1) PROFILE_TEXT.now) (two : IsProfileText (profile_types 2) PROFILE_TEXT_2.now) where
  pub built : (text : List ℕ) (octets : ℕ) (m : Syntax) → text ≡ text_of version → Reads text octets m
      → IsBuiltin version (record { syntax = m; version = version })
  built text octets m same reads =
      let p = text_is version one two in
      let here = subst (λ (t : List ℕ). Reads t octets m) same reads in
      let is = sym (one_text (text_of version) m p.m here.is p.is) in
      record {
        version-is = refl;
        octets = octets;
        reads = here;
        agrees = subst (λ (s : Syntax). Agrees (types_of version) s) is p.agrees;
        name = subst (λ (s : Syntax). is_text s.name module_name ≡ true) is p.name;
        count = subst (λ (s : Syntax). length (type_ids s.assignments) ≡ 53) is p.count;
      }

  pub never_wrong : (text : List ℕ) (line column : ℕ) (reason : ModuleReason) → text ≡ text_of version → WrongText text line column reason → ⊥
  never_wrong text line column reason same wrong =
      let p = text_is version one two in
      never_both (text_of version) p.m.end line column p.m reason (record { is = p.is; sound = sound p.sound; ends = refl })
      (subst (λ (t : List ℕ). WrongText t line column reason) same wrong)
