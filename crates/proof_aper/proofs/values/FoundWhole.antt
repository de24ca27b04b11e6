-- Octets that are read as a value spell it.
use Rattle.std.proofs.Common.{◌≡◌, ℕ, ◌+◌, ◌*◌, ◌≤◌, ◌==◌, cond, Bool, true, false, List, [], ◌∷◌, ◌++◌, length, drop, Result, Ok, Err, refl, sym, ap, subst, ◌∙◌, arith, append-nil}
use Rattle.std.proofs.lemmas.List.{length-drop}
use Rattle.bits_core.specs.Bits.{octet_bits}
use Rattle.bits_core.proofs.BitLemmas.{length-octet_bits}
use Rattle.aper_defs.specs.declared.reason.Reason.TheVariants as reasons
use Rattle.aper_defs.specs.Trees.{Tree}
use Rattle.aper_defs.specs.Values.{Value}
use Rattle.aper_defs.specs.Fields.{Field, closing, asked}
use Rattle.aper_defs.specs.Bits.{width_at, put_all, closed}
use Rattle.aper_defs.specs.Layouts.{layout}
use Rattle.aper_defs.specs.Bounds.{IsBounded}
use Rattle.aper_defs.specs.Spelling.{Spells}
use Rattle.aper_defs.specs.Questions.{ask, done}
use Rattle.aper_defs.specs.Asking.{asks_whole}
use Rattle.aper_defs.specs.Reading.{Cursor, Fault, at_first, bits_at, bit_limit, moved_by, asked_width, answered_at, read, run, only, decoded}
use Rattle.proof_aper.proofs.answers.Standing.{StandAll, after_all, after_all-append}
use Rattle.proof_aper.proofs.answers.NumberFacts.{same}
use Rattle.proof_aper.proofs.places.Bits.{all_bits, total, put_all-nil}
use Rattle.proof_aper.proofs.places.Placed.{Placed, stand_both}
use Rattle.proof_aper.proofs.places.PlacedAll.{placed}
use Rattle.proof_aper.proofs.places.Opened.{empty_mark}
use Rattle.proof_aper.proofs.values.Found.{Ends, found_ask, Answered, answer_read, taken_limit}
use Rattle.proof_aper.proofs.values.FoundBits.{written, stand_there}
use Rattle.proof_aper.proofs.values.FoundOpen.{closing_mark}
use Rattle.proof_aper.proofs.values.FoundValues.{found}

none_left : (n : ℕ) (bits : List Bool) → length bits ≡ n → drop n bits ≡ []
none_left n bits h = empty (drop n bits) (omega (arith, length-drop n bits, h))
  where
    empty : (xs : List Bool) → length xs ≡ 0 → xs ≡ []
    empty [] e = refl
    empty (x ∷ xs) e = absurd (omega (arith, e))

done_so : (x w : Value) (c d : Cursor) → Ends (done x) c (w, d) → (x ≡ w) × (c.place ≡ d.place) × (c.octets ≡ d.octets)
unfolding run
done_so x w c d e =
    let g : (let a : Value × Cursor = (x, c) in a) ≡ (w, d) = cc in
    (ap (λ (z : Value × Cursor). z.0) g, ap (λ (z : Value × Cursor). z.1.place) g, ap (λ (z : Value × Cursor). z.1.octets) g)

-- the whole reading
read_spells : (t : Tree) (octets : List ℕ) (w : Value) (d : Cursor) → IsBounded t → Ends (asks_whole t) (at_first octets) (w, d)
    → d.place ≡ 8 * length d.octets → Spells t w octets
read_spells t octets w d b e at_end =
    let c : Cursor = at_first octets in
    let a = found [] t (λ x. ask [] closing (λ m. done x)) c (w, d) b e in
    let x = a.made in
    let fs = layout [] t x in
    let p : Placed fs = placed [] t x b a.is in
    let moves : after_all fs c ≡ moved_by (total 0 fs) c = p.moves c in
    let c2 = moved_by (total 0 fs) c in
    let rest : Ends (ask [] closing (λ m. done x)) c2 (w, d) = subst (λ z. Ends (ask [] closing (λ m. done x)) z (w, d)) moves a.rest in
    let g = found_ask [] closing (λ m. done x) c2 (w, d) rest in
    let mark : g.made ≡ empty_mark fs = closing_mark fs c2 g.made refl refl g.is in
    let closes : read closing c2 ≡ Ok (empty_mark fs) = subst (λ m. read closing c2 ≡ Ok m) mark g.is in
    let c3 : Cursor = answered_at closing (empty_mark fs) c2 in
    let so = done_so x w c3 d (subst (λ m. Ends (done x) (answered_at closing m c2) (w, d)) mark g.rest) in
    let size : c3.place ≡ 8 * length octets = so.1 ∙ at_end ∙ ap (λ (os : List ℕ). 8 * length os) (sym so.2) in
    let last : List Field = asked [] closing (empty_mark fs) ∷ [] in
    let stand : StandAll (closed [] fs) c = stand_both fs last c a.stand (subst (StandAll last) (sym moves) (closes, tt)) in
    let after : after_all (closed [] fs) c ≡ c3 = after_all-append fs last c ∙ ap (after_all last) moves in
    let empty : bits_at (after_all (closed [] fs) c) ≡ [] =
    ap bits_at after ∙ none_left c3.place (octet_bits octets) (length-octet_bits octets ∙ sym size) in
    let all : octet_bits octets ≡ put_all [] (closed [] fs) = stand_there (closed [] fs) c stand
    ∙ ap (λ (xs : List Bool). all_bits 0 (closed [] fs) ++ xs) empty ∙ append-nil (all_bits 0 (closed [] fs)) ∙ sym (put_all-nil
    (closed [] fs)) in
    let an : Answered closing c2 (empty_mark fs) = answer_read closing c2 (empty_mark fs) closes in
    let limit : c2.place + asked_width closing c2 ≤ bit_limit = taken_limit c2 (asked_width closing c2) an.room in
    let width : asked_width closing c2 ≡ width_at c2.place closing (empty_mark fs) = (written closing c2 (empty_mark fs) an).0 in
    subst (λ v. Spells t v octets) so.0 (record { has = a.is; bits = all; short = omega (arith, limit, width, size) })

pub decoded_spells : (t : Tree) (v : Value) (octets : List ℕ) → IsBounded t → decoded t octets ≡ Ok v → Spells t v octets
decoded_spells t v octets b e = go (run (asks_whole t) (at_first octets)) refl e
  where
    ended : (w : Value) (d : Cursor) (x : Bool) → (d.place == 8 * length d.octets) ≡ x
        → cond x (Ok w) (Err (record { bit = d.place; reason = reasons.Tail; path = [] })) ≡ (let r : Result Value Fault = Ok v in r)
        → (d.place ≡ 8 * length d.octets) × (w ≡ v)
    ended w d true f g = (same d.place (8 * length d.octets) f, cc)
    ended w d false f g = cc

    go : (r : Result (Value × Cursor) Fault) → run (asks_whole t) (at_first octets) ≡ r → only r ≡ Ok v → Spells t v octets
    go (Ok (w, d)) is h =
        let f = ended w d (d.place == 8 * length d.octets) refl h in
        subst (λ x. Spells t x octets) f.1 (read_spells t octets w d b is f.0)
    go (Err fault) is h = cc
