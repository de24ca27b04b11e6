-- What is answered for a type is an answer for another one that encodings don't tell apart from it.
use Rattle.std.proofs.Common.{◌≡◌, ℕ, List, Result, Ok, Err, sym, ◌∙◌}
use Rattle.aper_defs.specs.Trees.{Tree}
use Rattle.aper_defs.specs.Reading.{Fault, decoded}
use Rattle.aper_defs.specs.loose_defs.Wrong.{WrongAt}
use Rattle.profile.specs.declared.version.Version.{Version}
use Rattle.profile.specs.declared.version.Version.TheVariants.{One, Two}
use Rattle.profile.specs.Versions.{number_of}
use Rattle.message_defs.specs.profile_defs.Profile.{xn_type}
use Rattle.message_types.specs.declared.xn.XnMessage.{XnMessage}
use Rattle.message_defs.specs.Xn.{xn_from_value}
use Rattle.proof_messages.proofs.message_refusals.Types.{xn1, xn2}
use Rattle.profile.specs.xn.Alike.{IsAlike}
use Rattle.profile.proofs.xn.Spellings.{spells, spelled, same_decoded}
use Rattle.message_octets.specs.declared.error.MsgError.{MsgError}
use Rattle.message_octets.specs.declared.error.MsgError.TheVariants as errors
use Rattle.message_octets.specs.Answers.{IsFromValueIn}

-- the first wrong field of refused octets, under either version
pub xn_wrong : (version : Version) (octets : List ℕ) (fault : Fault) → decoded (xn_type (number_of version)) octets ≡ Err fault
    → WrongAt (xn_type (number_of version)) octets fault
xn_wrong One octets fault e = xn1 octets fault e
xn_wrong Two octets fault e = xn2 octets fault e

pub answered : (a b : Tree) → IsAlike a b → ((octets : List ℕ) (fault : Fault) → decoded b octets ≡ Err fault → WrongAt b octets fault)
    → (octets : List ℕ) (result : Result XnMessage MsgError) → IsFromValueIn a xn_from_value octets result
    → IsFromValueIn b xn_from_value octets result
answered a b alike wrong octets (Ok msg) h = (h.0, spells a b alike h.0 octets h.1, h.2)
answered a b alike wrong octets (Err (errors.Refused bit reason path)) h = (
  record {
    no_value = λ v s. h.0.no_value v (spelled a b alike v octets s);
    goes_wrong = λ left. (h.1.0, wrong octets (record { bit = bit; reason = reason; path = h.1.0 }) (sym (same_decoded a b alike octets) ∙ h.1.1), h.1.2);
  },
  (h.1.0, sym (same_decoded a b alike octets) ∙ h.1.1, h.1.2),
)
answered a b alike wrong octets (Err (errors.UnknownProcedure code criticality)) h = (h.0, spells a b alike h.0 octets h.1, h.2)
answered a b alike wrong octets (Err (errors.UnknownIe id)) h = (h.0, spells a b alike h.0 octets h.1, h.2)
answered a b alike wrong octets (Err errors.Memory) h = h
