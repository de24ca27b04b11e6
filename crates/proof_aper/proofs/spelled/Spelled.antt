-- A spelling is read as its value, whatever follows it.
use Rattle.std.proofs.Common.{◌≡◌, ℕ, ◌+◌, ◌*◌, cond, Bool, List, [], ◌∷◌, ◌++◌, length, Ok, Err, refl, sym, ap, subst, ◌∙◌, arith, append_assoc, append-nil}
use Rattle.std.proofs.lemmas.List.{length-append}
use Rattle.std.proofs.lemmas.Grind.{flat_map-append}
use Rattle.bits_core.specs.Bits.{bits_of, octet_bits}
use Rattle.bits_core.proofs.BitLemmas.{length-octet_bits}
use Rattle.aper_defs.specs.declared.reason.Reason.TheVariants as reasons
use Rattle.aper_defs.specs.Trees.{Tree}
use Rattle.aper_defs.specs.Values.{Value}
use Rattle.aper_defs.specs.Fields.{Field, closing, asked}
use Rattle.aper_defs.specs.Bits.{width_at, put_all, closed}
use Rattle.aper_defs.specs.Layouts.{layout}
use Rattle.aper_defs.specs.Bounds.{IsBounded}
use Rattle.aper_defs.specs.Spelling.{Spells}
use Rattle.aper_defs.specs.Questions.{ask, done}
use Rattle.aper_defs.specs.Asking.{asks_whole}
use Rattle.aper_defs.specs.Reading.{at_first, bits_at, moved_by, read, run, only, decoded}
use Rattle.proof_aper.proofs.answers.Standing.{after_all, answered}
use Rattle.proof_aper.proofs.answers.NumberFacts.{is_same}
use Rattle.proof_aper.proofs.places.Bits.{all_bits, total, length-all_bits, total-append, all_bits-append, put_all-nil}
use Rattle.proof_aper.proofs.places.Placed.{Room, room_less, room_after, bits_after, Placed}
use Rattle.proof_aper.proofs.places.Opened.{empty_mark, size_is, reads_closing}
use Rattle.proof_aper.proofs.answers.Forth.{forth}
use Rattle.proof_aper.proofs.places.PlacedAll.{placed}

-- the bits of a complete encoding, and how many they are
whole_bits : (fs : List Field) → put_all [] (closed [] fs) ≡ all_bits 0 fs ++ bits_of (width_at (0 + total 0 fs) closing (empty_mark fs)) 0
whole_bits fs =
    put_all-nil (closed [] fs) ∙ all_bits-append 0 fs (asked [] closing (empty_mark fs) ∷ [])
    ∙ ap (λ (xs : List Bool). all_bits 0 fs ++ xs) (append-nil (bits_of (width_at (0 + total 0 fs) closing (empty_mark fs)) 0))

pub whole_size : (fs : List Field) → length (put_all [] (closed [] fs)) ≡ total 0 fs + width_at (0 + total 0 fs) closing (empty_mark fs)
whole_size fs = let mark : Field = asked [] closing (empty_mark fs) in omega (arith, size_is (closed [] fs), total-append 0 fs (mark ∷ []))

pub spelled_octets : (t : Tree) (v : Value) (octets : List ℕ) → Spells t v octets
    → 8 * length octets ≡ total 0 (layout [] t v) + width_at (0 + total 0 (layout [] t v)) closing (empty_mark (layout [] t v))
spelled_octets t v octets s = sym (length-octet_bits octets) ∙ ap length s.bits ∙ whole_size (layout [] t v)

-- what is read of a spelling, whatever follows it
pub spelled_read : (t : Tree) (v : Value) (octets rest : List ℕ) → IsBounded t → Spells t v octets
    → run (asks_whole t) (at_first (octets ++ rest)) ≡ Ok (v, record { octets = octets ++ rest; place = 8 * length octets; opens = [] })
unfolding run
spelled_read t v octets rest b s =
    let c = at_first (octets ++ rest) in
    let fs = layout [] t v in
    let size = total 0 fs in
    let mark = empty_mark fs in
    let width = width_at (0 + size) closing mark in
    let more = octet_bits rest in
    let all : bits_at c ≡ all_bits 0 fs ++ (bits_of width 0 ++ more) =
    flat_map-append (bits_of 8) octets rest ∙ ap (λ (xs : List Bool). xs ++ more) (s.bits ∙ whole_bits fs)
    ∙ append_assoc (all_bits 0 fs) (bits_of width 0) more in
    let count : 8 * length octets ≡ size + width = spelled_octets t v octets s in
    let room : Room c (size + width) = record {
      within = refl;
      limit = omega (arith, count, s.short);
      there = omega (arith, count, length-append octets rest);
    } in
    let p : Placed fs = placed [] t v b s.has in
    let d = moved_by size c in
    let reads : read closing d ≡ Ok mark =
    reads_closing fs d more refl refl (bits_after c size (all_bits 0 fs) (bits_of width 0 ++ more) all (length-all_bits 0 fs))
    (room_after c size width room) in
    let moves : after_all fs c ≡ d = p.moves c in
    let sum : 0 + size + width ≡ 8 * length octets = omega (arith, count) in
    forth [] t v (λ w. ask [] closing (λ m. done w)) c s.has
    (p.stand c (bits_of width 0 ++ more) all (room_less c size (size + width) (omega arith) room))
    ∙ ap (run (ask [] closing (λ m. done v))) moves
    ∙ answered [] closing (λ m. done v) d mark reads
    ∙ ap (λ (n : ℕ). Ok (v, record { octets = octets ++ rest; place = n; opens = [] })) sum

pub spelled_decoded : (t : Tree) (v : Value) (octets : List ℕ) → IsBounded t → Spells t v octets → decoded t octets ≡ Ok v
spelled_decoded t v octets b s =
    let e : octets ++ [] ≡ octets = append-nil octets in
    let read : run (asks_whole t) (at_first octets) ≡ Ok (v, record { octets = octets; place = 8 * length octets; opens = [] }) =
    subst (λ os. run (asks_whole t) (at_first os) ≡ Ok (v, record { octets = os; place = 8 * length octets; opens = [] })) e
    (spelled_read t v octets [] b s) in
    ap only read ∙ ap (λ x. cond x (Ok v) (Err (record { bit = 8 * length octets; reason = reasons.Tail; path = [] })))
    (is_same (8 * length octets) (8 * length octets) refl)
