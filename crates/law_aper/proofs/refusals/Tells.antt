-- What octets tell is what the questions find.
use Rattle.std.proofs.Common.{◌≡◌, ℕ, List, Result, Ok, Err, refl, sym, ◌∙◌}
use Rattle.aper_defs.specs.Trees.{Tree}
use Rattle.aper_defs.specs.Values.{Value}
use Rattle.aper_defs.specs.Bounds.{IsBounded}
use Rattle.aper_defs.specs.Reading.{Fault, decoded}
use Rattle.proof_aper.proofs.values.FoundWhole.{decoded_spells}
use Rattle.proof_aper.proofs.spelled.Spelled.{spelled_decoded}
use Rattle.aper_defs.specs.loose_defs.Sets.{HasSets}
use Rattle.proof_aper.proofs.refused.WrongPlaces.{wrong_found}
use Rattle.proof_aper.proofs.refused.Refused.{refused_wrong}
use Rattle.law_aper.specs.refusals.Told.{Tells}

pub told : (t : Tree) (octets : List ℕ) (r : Result Value Fault) → IsBounded t → HasSets t → decoded t octets ≡ r → Tells t octets r
told t octets (Ok v) b sets e = decoded_spells t v octets b e
told t octets (Err fault) b sets e = refused_wrong t octets fault b sets e

pub tells : (t : Tree) (octets : List ℕ) (r : Result Value Fault) → IsBounded t → Tells t octets r → decoded t octets ≡ r
tells t octets (Ok v) b h = spelled_decoded t v octets b h
tells t octets (Err fault) b h = wrong_found t octets fault b h

pub tells_one : (t : Tree) (octets : List ℕ) (r s : Result Value Fault) → IsBounded t → Tells t octets r → Tells t octets s → r ≡ s
tells_one t octets r s b h k = sym (tells t octets r b h) ∙ tells t octets s b k

pub tells_some : (t : Tree) (octets : List ℕ) → IsBounded t → HasSets t → (r : Result Value Fault) × Tells t octets r
tells_some t octets b sets = (decoded t octets, told t octets (decoded t octets) b sets refl)
