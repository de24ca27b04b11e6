-- What a decoder's answer says of spellings.
use Rattle.std.proofs.Common.{◌≡◌, ℕ, List, Result, Ok, Err, sym, subst, ◌∙◌}
use Rattle.aper_defs.specs.declared.reason.Reason.{Reason}
use Rattle.aper_defs.specs.Trees.{Tree}
use Rattle.aper_defs.specs.Values.{Value}
use Rattle.aper_defs.specs.Fields.{Path}
use Rattle.aper_defs.specs.Bounds.{IsBounded}
use Rattle.aper_defs.specs.Spelling.{Spells}
use Rattle.aper_defs.specs.Reading.{Fault, decoded}
use Rattle.proof_aper.proofs.spelled.Spelled.{spelled_decoded}
use Rattle.aper_defs.specs.loose_defs.Wrong.{WrongAt}
use Rattle.aper_defs.specs.loose_defs.Sets.{HasSets, LeavesIds}
use Rattle.proof_aper.proofs.refused.Refused.{refused_wrong}
use Rattle.aper_frames.specs.Paths.{path_view}
use Rattle.aper_decode.specs.declared.error.DecodeError as reading
use Rattle.aper_decode.specs.declared.error.DecodeError.TheVariants as undecoded
use Rattle.aper_decode.specs.Decoding.{Decodes}
use Rattle.aper.specs.declared.error.DecodeError.{DecodeError}
use Rattle.aper.specs.declared.error.DecodeError.TheVariants.{Refused, Memory}
use Rattle.aper.specs.Refusals.{OnRefusal, IsRefused}
use Rattle.aper.specs.inside.Printed.{IsPrinted}

-- octets in which a field is wrong spell nothing
none_spelled : (t : Tree) (octets : List ℕ) (fault : Fault) → IsBounded t → decoded t octets ≡ Err fault
    → (v : Value) → Spells t v octets → ⊥
none_spelled t octets fault b wrong v s =
    let e : (let r : Result Value Fault = Ok v in r) ≡ Err fault = sym (spelled_decoded t v octets b s) ∙ wrong in cc

same_fault : (place bit : ℕ) (why reason : Reason) (path : Path) → bit ≡ place → reason ≡ why
    → (let f : Fault = record { bit = bit; reason = reason; path = path } in f) ≡ record { bit = place; reason = why; path = path }
same_fault place bit why reason path h g = cc

pub refused_so : (t : Tree) (octets : List ℕ) (error : reading.DecodeError) (e : DecodeError) → IsBounded t
    → (LeavesIds t → HasSets t) → Decodes t octets (Err error) → IsPrinted error e → OnRefusal (Err e) (IsRefused t octets)
refused_so t octets (undecoded.Refused bit reason path) (Refused place why text) b sets wrong h =
    let fault : Fault = record { bit = bit; reason = reason; path = path_view path.items } in record {
      no_value = none_spelled t octets fault b wrong;
      goes_wrong = λ left. (
        path_view path.items,
        subst (WrongAt t octets) (same_fault place bit why reason (path_view path.items) (sym h.0) (sym h.1)) (refused_wrong t octets fault b (sets left) wrong),
        h.2,
      );
    }
refused_so t octets undecoded.Memory (Refused place why text) b sets wrong h = absurd h
refused_so t octets error Memory b sets wrong h = tt
