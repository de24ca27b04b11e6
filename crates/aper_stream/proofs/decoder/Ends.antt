-- Where no octets come any more.
use Rattle.std.proofs.Common.{◌≡◌, ℕ, ◌*◌, ◌==◌, cond, Bool, false, List, [], ◌++◌, length, Result, Ok, Err, sym, ap, subst, ◌∙◌, append-nil}
use Rattle.asn1_syntax.specs.declared.assignments.assignment.Syntax.{Syntax}
use Rattle.aper_defs.specs.declared.reason.Reason.TheVariants as reasons
use Rattle.aper_defs.specs.Trees.{Tree}
use Rattle.aper_defs.specs.Values as seen
use Rattle.aper_defs.specs.Reading.{Fault, only, decoded}
use Rattle.aper_values.specs.declared.value.Value.{Value}
use Rattle.aper_frames.specs.declared.frame.Frame.{Frame}
use Rattle.aper_decode.specs.declared.error.DecodeError.{DecodeError}
use Rattle.aper_decode.specs.declared.error.DecodeError.TheVariants as errors
use Rattle.aper_decode.specs.Decoding.{Decodes}
use Rattle.aper_decode.specs.Turns.{IsRefusal}
use Rattle.aper_stream.specs.declared.decoder.spot.Spot.{Spot}
use Rattle.aper_stream.specs.declared.decoder.turns.End.{End}
use Rattle.aper_stream.specs.declared.decoder.turns.End.TheVariants as ends
use Rattle.aper_stream.specs.declared.decoder.decoder.Reader.{Reader}
use Rattle.aper_stream.specs.decoder.inside.Reading.{IsEnd, alone, end_of}
use Rattle.aper_stream.specs.decoder.inside.States.{type_of, front, IsSameType, PieceEnds, Gives}
use Rattle.aper_stream.proofs.decoder.Front.{front_same}
use Rattle.aper_stream.proofs.decoder.Pieces.{same_type}
use Rattle.aper_stream.proofs.decoder.Refusals.{gives_refusal}

end_decoded : (m : Syntax) (t : Tree) (octets : List ℕ) (spot : Spot) (fs : List Frame) (end : End) → IsEnd m t octets spot fs end
    → decoded t octets ≡ end_of (length octets) fs end
end_decoded m t octets spot fs (ends.Whole v place) e = ap only e.is
end_decoded m t octets spot fs (ends.Wrong bit reason next) e = ap only e.0

gives_decodes : (t : Tree) (octets : List ℕ) (found : Result seen.Value Fault) (result : Result Value DecodeError) → decoded t octets ≡ found
    → Gives found result → Decodes t octets result
gives_decodes t octets found (Ok v) e h = e ∙ h
gives_decodes t octets found (Err (errors.Refused bit reason path)) e h = e ∙ h
gives_decodes t octets found (Err errors.Memory) e h = tt

-- what turns gave that ended so
ended_decodes : (r : Reader) (end : End) (result : Result Value DecodeError) → PieceEnds r end
    → Gives (end_of (length (front r.kept.items)) r.frames end) result → Decodes (type_of r) r.kept.items result
ended_decodes r end result h g =
    gives_decodes (type_of r) r.kept.items (end_of (length (front r.kept.items)) r.frames end) result
    (sym (front_same (type_of r) r.kept.items)
    ∙ end_decoded r.module.now (type_of r) (front r.kept.items) r.spot r.frames end h.is) g

pub last_piece : (old new : Reader) (piece : List ℕ) (end : End) (result : Result Value DecodeError) → IsSameType old new
    → new.kept.items ≡ old.kept.items ++ piece → PieceEnds new end
    → Gives (end_of (length (front new.kept.items)) new.frames end) result
    → Decodes (type_of old) (old.kept.items ++ piece) result
last_piece old new piece end result same kept h g =
    subst (λ (t : Tree). Decodes t (old.kept.items ++ piece) result) (same_type old new piece same kept)
    (subst (λ (os : List ℕ). Decodes (type_of new) os result) kept (ended_decodes new end result h g))

-- no more octets
pub no_more : (t : Tree) (kept : List ℕ) (result : Result Value DecodeError) → Decodes t (kept ++ []) result → Decodes t kept result
no_more t kept result h = subst (λ (os : List ℕ). Decodes t os result) (append-nil kept) h

-- octets after the value
pub tail_given : (size : ℕ) (v : seen.Value) (place : ℕ) (e : DecodeError) → (place == 8 * size) ≡ false → IsRefusal place reasons.Tail [] e
    → Gives (alone size v place) (Err e)
tail_given size v place e h told =
    subst (λ (b : Bool). Gives (cond b (Ok v) (Err (record { bit = place; reason = reasons.Tail; path = [] }))) (Err e)) (sym h)
    (gives_refusal place reasons.Tail [] e told)
