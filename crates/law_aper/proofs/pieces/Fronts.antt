-- A front of a spelling is cut off; octets in which a value is found begin with its spelling.
use Rattle.std.proofs.Common.{◌≡◌, ℕ, ◌*◌, ◌≤◌, ◌==◌, cond, Bool, true, false, List, [], ◌∷◌, ◌++◌, length, take, drop, Result, Ok, Err, refl, sym, ap, subst, ◌∙◌, arith}
use Rattle.std.proofs.lemmas.List.{length-append, length-take-le, take-append-drop, take_at}
use Rattle.std.proofs.lemmas.Grind.{flat_map-append}
use Rattle.bits_core.specs.Bits.{bits_of, octet_bits}
use Rattle.bits_core.proofs.BitLemmas.{length-octet_bits}
use Rattle.aper_defs.specs.declared.reason.Reason.{Reason}
use Rattle.aper_defs.specs.declared.reason.Reason.TheVariants as reasons
use Rattle.aper_defs.specs.Trees.{Tree}
use Rattle.aper_defs.specs.Values.{Value}
use Rattle.aper_defs.specs.Fields.{Field, closing, asked}
use Rattle.aper_defs.specs.Bits.{width_at, closed, octet_count}
use Rattle.aper_defs.specs.Layouts.{layout}
use Rattle.aper_defs.specs.Bounds.{IsBounded}
use Rattle.aper_defs.specs.Spelling.{Spells}
use Rattle.aper_defs.specs.Questions.{ask, done}
use Rattle.aper_defs.specs.Asking.{asks_whole}
use Rattle.aper_defs.specs.Reading.{Cursor, Fault, at_first, bits_at, moved_by, asked_width, answered_at, read, run, only, decoded}
use Rattle.proof_aper.proofs.answers.Standing.{StandAll, after_all}
use Rattle.proof_aper.proofs.answers.NumberFacts.{same}
use Rattle.proof_aper.proofs.places.Bits.{all_bits, total, length-all_bits, total-append, put_all-nil}
use Rattle.proof_aper.proofs.places.Placed.{Room, Placed, stand_both}
use Rattle.proof_aper.proofs.places.PlacedAll.{placed}
use Rattle.proof_aper.proofs.places.Opened.{empty_mark, closing_is, octets_are}
use Rattle.proof_aper.proofs.values.Found.{Ends, found_ask, Answered, answer_read}
use Rattle.proof_aper.proofs.values.FoundBits.{written, stand_there}
use Rattle.proof_aper.proofs.values.FoundOpen.{closing_mark}
use Rattle.proof_aper.proofs.values.FoundValues.{found}
use Rattle.proof_aper.proofs.spelled.Spelled.{spelled_read, spelled_decoded}
use Rattle.proof_aper.proofs.refused.Refused.{Outside, ended_outside}
use Rattle.proof_aper.specs.pieces.Onto.{onto, StillRefused}
use Rattle.proof_aper.proofs.pieces.Onward.{room_of, run_ok, run_wrong}

is_truncated : (reason : Reason) → ((reason ≡ reasons.Truncated → ⊥) → ⊥) → reason ≡ reasons.Truncated
is_truncated reasons.Truncated h = refl
is_truncated reasons.Padding h = absurd (h (λ e. cc))
is_truncated reasons.Range h = absurd (h (λ e. cc))
is_truncated reasons.NotMinimal h = absurd (h (λ e. cc))
is_truncated reasons.Index h = absurd (h (λ e. cc))
is_truncated reasons.Length h = absurd (h (λ e. cc))
is_truncated reasons.Character h = absurd (h (λ e. cc))
is_truncated reasons.Overrun h = absurd (h (λ e. cc))
is_truncated reasons.Tail h = absurd (h (λ e. cc))
is_truncated reasons.Required h = absurd (h (λ e. cc))
is_truncated reasons.Order h = absurd (h (λ e. cc))
is_truncated reasons.TooLong h = absurd (h (λ e. cc))
is_truncated reasons.EmptyAdditions h = absurd (h (λ e. cc))

some_more : (more : List ℕ) → (more ≡ [] → ⊥) → 1 ≤ length more
some_more [] h = absurd (h refl)
some_more (o ∷ more) h = omega arith

pub record CutOff (t : Tree) (front : List ℕ) : Type 0 where
  pub fault : Fault
  pub is : decoded t front ≡ Err fault
  pub reason : fault.reason ≡ reasons.Truncated

pub cut_off : (t : Tree) (v : Value) (front more : List ℕ) → IsBounded t → Spells t v (front ++ more) → (more ≡ [] → ⊥) → CutOff t front
cut_off t v front more b s some = go (run (asks_whole t) (at_first front)) refl
  where
    whole : decoded t (front ++ more) ≡ Ok v
    whole = spelled_decoded t v (front ++ more) b s

    -- a value that is found in the front doesn't end where the octets do
    not_here : (w : Value) (d : Cursor) → run (asks_whole t) (at_first front) ≡ Ok (w, d) → ⊥
    not_here w d is =
        let o : Outside d = ended_outside t front w d b is in
        let room : Room d 0 = room_of d 0 o.room in
        let again : only (Ok (w, onto more d)) ≡ Ok v = sym (ap only (run_ok (asks_whole t) (at_first front) more w d is)) ∙ whole in
        at_end (d.place == 8 * length (d.octets ++ more)) refl again
      where
        at_end : (x : Bool) → (d.place == 8 * length (d.octets ++ more)) ≡ x
            → cond x (Ok w) (Err (record { bit = d.place; reason = reasons.Tail; path = [] })) ≡ (let r : Result Value Fault = Ok v in r)
            → ⊥
        at_end true e g =
            let o : Outside d = ended_outside t front w d b is in
            let room : Room d 0 = room_of d 0 o.room in
            absurd (omega (arith, same d.place (8 * length (d.octets ++ more)) e, room.there, length-append d.octets more, some_more more some))
        at_end false e g = cc

    still : (fault : Fault) → run (asks_whole t) (at_first front) ≡ Err fault → (fault.reason ≡ reasons.Truncated → ⊥) → ⊥
    still fault is other =
        let r : StillRefused (run (asks_whole t) (at_first (front ++ more))) fault = run_wrong (asks_whole t) (at_first front) more fault is other in
        clash (record { bit = fault.bit; reason = r.why; path = fault.path }) (sym (ap only r.is) ∙ whole)
      where
        clash : (f : Fault) → (let r : Result Value Fault = Err f in r) ≡ Ok v → ⊥
        clash f g = cc

    go : (r : Result (Value × Cursor) Fault) → run (asks_whole t) (at_first front) ≡ r → CutOff t front
    go (Ok (w, d)) is = absurd (not_here w d is)
    go (Err fault) is = record { fault = fault; is = ap only is; reason = is_truncated fault.reason (still fault is) }

pub front_cut : (t : Tree) (v : Value) (front more : List ℕ) → IsBounded t → Spells t v (front ++ more) → (more ≡ [] → ⊥)
    → (fault : Fault) × (decoded t front ≡ Err fault) × (fault.reason ≡ reasons.Truncated)
front_cut t v front more b s some = let c = cut_off t v front more b s some in (c.fault, c.is, c.reason)

-- ---- what is found in octets is spelled by a front of them
same_front : (A B C D : List Bool) → A ++ B ≡ C ++ D → length A ≡ length C → A ≡ C
same_front A B C D e size =
    sym (take_at A B (length A) refl) ∙ ap (take (length A)) e ∙ ap (λ (n : ℕ). take n (C ++ D)) size ∙ take_at C D (length C) refl

reached_by : (x w : Value) (c d : Cursor) → Ends (done x) c (w, d) → (x ≡ w) × (c.place ≡ d.place)
unfolding run
reached_by x w c d e =
    let g : (let a : Value × Cursor = (x, c) in a) ≡ (w, d) = cc in
    (ap (λ (z : Value × Cursor). z.0) g, ap (λ (z : Value × Cursor). z.1.place) g)

-- octets that begin with the spelling of a value, which ends at a place
record Begins (t : Tree) (v : Value) (octets : List ℕ) (place : ℕ) : Type 0 where
  pub front : List ℕ
  pub more : List ℕ
  pub is : octets ≡ front ++ more
  pub spells : Spells t v front
  pub reach : place ≡ 8 * length front

begins : (t : Tree) (octets : List ℕ) (w : Value) (d : Cursor) → IsBounded t → Ends (asks_whole t) (at_first octets) (w, d)
    → Begins t w octets d.place
begins t octets w d b e =
    let c : Cursor = at_first octets in
    let a = found [] t (λ x. ask [] closing (λ m. done x)) c (w, d) b e in
    let x = a.made in
    let fs = layout [] t x in
    let p : Placed fs = placed [] t x b a.is in
    let moves : after_all fs c ≡ moved_by (total 0 fs) c = p.moves c in
    let c2 = moved_by (total 0 fs) c in
    let rest : Ends (ask [] closing (λ m. done x)) c2 (w, d) = subst (λ z. Ends (ask [] closing (λ m. done x)) z (w, d)) moves a.rest in
    let g = found_ask [] closing (λ m. done x) c2 (w, d) rest in
    let mark : g.made ≡ empty_mark fs = closing_mark fs c2 g.made refl refl g.is in
    let closes : read closing c2 ≡ Ok (empty_mark fs) = subst (λ m. read closing c2 ≡ Ok m) mark g.is in
    let c3 : Cursor = answered_at closing (empty_mark fs) c2 in
    let so = reached_by x w c3 d (subst (λ m. Ends (done x) (answered_at closing m c2) (w, d)) mark g.rest) in
    let last : List Field = asked [] closing (empty_mark fs) ∷ [] in
    let all : List Field = closed [] fs in
    let stand : StandAll all c = stand_both fs last c a.stand (subst (StandAll last) (sym moves) (closes, tt)) in
    let an : Answered closing c2 (empty_mark fs) = answer_read closing c2 (empty_mark fs) closes in
    let room : Room c2 (asked_width closing c2) = room_of c2 (asked_width closing c2) an.room in
    let width : asked_width closing c2 ≡ width_at c2.place closing (empty_mark fs) = (written closing c2 (empty_mark fs) an).0 in
    let n = octet_count all in
    let size : total 0 all ≡ 8 * n = omega (arith, total-append 0 fs last, closing_is fs 0 refl, octets_are [] fs) in
    let place : c3.place ≡ 8 * n = omega (arith, closing_is fs 0 refl, octets_are [] fs) in
    let within : n ≤ length octets = omega (arith, place, room.there, width) in
    let front = take n octets in
    let more = drop n octets in
    let long : length front ≡ n = length-take-le n octets within in
    let bits : octet_bits front ++ octet_bits more ≡ all_bits 0 all ++ bits_at (after_all all c) =
    sym (flat_map-append (bits_of 8) front more) ∙ ap octet_bits (take-append-drop n octets) ∙ stand_there all c stand in
    let cut : octet_bits front ≡ all_bits 0 all =
    same_front (octet_bits front) (octet_bits more) (all_bits 0 all) (bits_at (after_all all c)) bits
    (omega (arith, length-octet_bits front, long, length-all_bits 0 all, size)) in
    let spelled : Spells t x front = record {
      has = a.is;
      bits = cut ∙ sym (put_all-nil all);
      short = omega (arith, long, place, room.limit, width);
    } in record {
      front = front;
      more = more;
      is = sym (take-append-drop n octets);
      spells = subst (λ v. Spells t v front) so.0 spelled;
      reach = omega (arith, so.1, place, long);
    }

pub begun : (t : Tree) (octets : List ℕ) (v : Value) (d : Cursor) → IsBounded t → run (asks_whole t) (at_first octets) ≡ Ok (v, d)
    → (front more : List ℕ) × (octets ≡ front ++ more) × Spells t v front × (d.place ≡ 8 * length front)
begun t octets v d b e = let x = begins t octets v d b e in (x.front, x.more, x.is, x.spells, x.reach)

pub begun_again : (t : Tree) (v : Value) (front more : List ℕ) → IsBounded t → Spells t v front
    → run (asks_whole t) (at_first (front ++ more)) ≡ Ok (v, record { octets = front ++ more; place = 8 * length front; opens = [] })
begun_again t v front more b s = spelled_read t v front more b s
