-- What is read as an open type is one: its contents end where its length says.
use Rattle.std.proofs.Common.{◌≡◌, ℕ, ◌+◌, ◌*◌, ◌%◌, ◌≤◌, ◌==◌, nat_lt, cond, ◌&&◌, true, List, [], ◌∷◌, ◌++◌, length, None, Ok, refl, sym, ap, subst, ◌∙◌, arith, append_assoc}
use Rattle.std.proofs.lemmas.Bool.Decides.{nat_tests}
use Rattle.bits_core.specs.Bits.{pad_of}
use Rattle.aper_defs.specs.declared.reason.Reason.TheVariants as reasons
use Rattle.aper_defs.specs.Values.{Value, raw}
use Rattle.aper_defs.specs.Fields.{Path, Ask, Field, extent, pad, opening, closing, end, whole, octet, asked, run as run_field}
use Rattle.aper_defs.specs.Bits.{extent_width, put_all, closed, octet_count, open_fields}
use Rattle.aper_defs.specs.Layouts.{raw_fields}
use Rattle.aper_defs.specs.Membership.{are_octets, IsRaw, FitsOpen}
use Rattle.aper_defs.specs.Questions.{Prog, ask, take, ask_open, ask_raw}
use Rattle.aper_defs.specs.Reading.{Cursor, read, answered_at, moved_by, start_of, ends_at}
use Rattle.proof_aper.proofs.answers.Standing.{StandAll, after_all, after_all-append}
use Rattle.proof_aper.proofs.answers.NumberFacts.{by_cases, same, is_below}
use Rattle.proof_aper.proofs.places.Bits.{total, total-aligned}
use Rattle.proof_aper.proofs.places.Placed.{Placed, AreBelow, stand_both}
use Rattle.proof_aper.proofs.places.Opened.{empty_mark, size_is, closing_is, octets_are}
use Rattle.proof_aper.proofs.values.Found.{Ends, Found, found_after, found_ask, Answered, answer_read, not_wrong}
use Rattle.proof_aper.proofs.values.FoundNumbers.{found_aligned}
use Rattle.proof_aper.proofs.values.FoundExtents.{IsLength, whole_read, opening_read}
use Rattle.proof_aper.proofs.values.FoundStrings.{found_take}

width_whole : (n : ℕ) → extent_width n % 8 ≡ 0
width_whole n = by_cases (nat_lt n 128) (λ b. cond b 8 (cond (nat_lt n 16384) 16 8) % 8 ≡ 0) (λ e. refl)
    (λ e. by_cases (nat_lt n 16384) (λ b. cond b 16 8 % 8 ≡ 0) (λ f. refl) (λ f. refl))

-- the mark that closes fields which began at the start of the innermost encoding
pub closing_mark : (fs : List Field) (c : Cursor) (m : ℕ) → start_of c.opens % 8 ≡ 0
    → c.place ≡ start_of c.opens + total (start_of c.opens) fs
    → read closing c ≡ Ok m → m ≡ empty_mark fs
closing_mark fs c m aligned at e =
    let a : Answered closing c m = answer_read closing c m e in
    let size : total (start_of c.opens) fs ≡ total 0 fs = total-aligned (start_of c.opens) fs aligned in
    let first : (c.place == start_of c.opens) ≡ (total 0 fs == 0) = grind (arith, nat_tests) in
    let here : (total 0 fs == 0) ≡ (length (put_all [] fs) == 0) = ap (λ (n : ℕ). n == 0) (sym (size_is fs)) in
    sym a.same ∙ ap (λ b. cond b 1 0) (first ∙ here)

pub end_read : (c : Cursor) (n : ℕ) → read end c ≡ Ok n → (n ≡ 0) × (ends_at c.place c.opens ≡ true)
end_read c n e =
    let a : Answered end c n = answer_read end c n e in
    (omega (arith, a.small, a.same), not_wrong (ends_at c.place c.opens) reasons.Tail a.right)

told_fields : Path → Path → ℕ → List Field → List Field
told_fields p inside n fs = asked p pad 0 ∷ asked p opening n ∷ (closed inside fs ++ asked inside end 0 ∷ [])

pub found_open : (p inside : Path) (contents : (Value → Prog) → Prog) (P : Value → Type 0) (f : Value → List Field) (K : Value
    → Prog) (c : Cursor) (y : Value × Cursor)
    → ((v : Value) → P v → Placed (f v))
    → ((L : Value → Prog) (d : Cursor) → Ends (contents L) d y → Found P f L d y)
    → Ends (ask_open p inside contents K) c y
    → Found (λ v. P v × FitsOpen inside (f v)) (λ v. open_fields p inside (f v)) K c y
unfolding told_fields
found_open p inside contents P f K c y placed inner e =
    let after = λ (w : Value). ask inside closing (λ m. ask inside end (λ z. K w)) in
    let a = found_aligned p opening (λ n. contents after) c y e in
    let n = a.made in
    let d : Cursor = answered_at opening n (answered_at pad 0 c) in
    let b = inner after d a.rest in
    let v = b.made in
    let fs = f v in
    let size = total d.place fs in
    let d2 = moved_by size d in
    let moves : after_all fs d ≡ d2 = (placed v b.is).moves d in
    let rest2 : Ends (after v) d2 y = subst (λ x. Ends (after v) x y) moves b.rest in
    let g = found_ask inside closing (λ m. ask inside end (λ z. K v)) d2 y rest2 in
    let begins : (c.place + pad_of c.place) % 8 ≡ 0 = omega arith in
    let aligned : d.place % 8 ≡ 0 = omega (arith, begins, width_whole n) in
    let mark : g.made ≡ empty_mark fs = closing_mark fs d2 g.made aligned refl g.is in
    let closes : read closing d2 ≡ Ok (empty_mark fs) = subst (λ m. read closing d2 ≡ Ok m) mark g.is in
    let d3 : Cursor = answered_at closing (empty_mark fs) d2 in
    let rest3 : Ends (ask inside end (λ z. K v)) d3 y = subst (λ m. Ends (ask inside end (λ z. K v))
    (answered_at closing m d2) y) mark g.rest in
    let h = found_ask inside end (λ z. K v) d3 y rest3 in
    let ends = end_read d3 h.made h.is in
    let ended : read end d3 ≡ Ok 0 = subst (λ m. read end d3 ≡ Ok m) ends.0 h.is in
    let rest4 : Ends (K v) (answered_at end 0 d3) y = subst (λ m. Ends (K v) (answered_at end m d3) y) ends.0 h.rest in
    let reached : d3.place ≡ d.place + 8 * n = same d3.place (d.place + 8 * n) ends.1 in
    let count : n ≡ octet_count (closed inside fs) =
    omega (arith, reached, closing_is fs d.place aligned, octets_are inside fs, total-aligned d.place fs aligned) in
    let tail : List Field = asked inside closing (empty_mark fs) ∷ asked inside end 0 ∷ [] in
    let grouped : fs ++ tail ≡ closed inside fs ++ asked inside end 0 ∷ [] = sym (append_assoc fs (asked inside closing
    (empty_mark fs) ∷ []) (asked inside end 0 ∷ [])) in
    let stand : StandAll (fs ++ tail) d = stand_both fs tail d b.stand (subst (StandAll tail) (sym moves) (closes, (ended, tt))) in
    let on : Ends (K v) (after_all (fs ++ tail) d) y =
    subst (λ x. Ends (K v) x y) (sym (after_all-append fs tail d ∙ ap (after_all tail) moves)) rest4 in record {
      made = v;
      is = (b.is, subst (λ (m : ℕ). m ≤ 16383) count (opening_read (answered_at pad 0 c) n a.stand.1.0).1);
      stand = subst (λ (m : ℕ). StandAll (told_fields p inside m fs) c) count (
        a.stand.0,
        (
          a.stand.1.0,
          subst
              (λ gs. StandAll gs d) grouped stand,
        ),
      );
      rest = subst (λ (m : ℕ). Ends (K v) (after_all (told_fields p inside m fs) c) y) count (subst (λ gs. Ends (K v)
          (after_all gs d) y) grouped on);
    }

-- ---- octets of what isn't known
pub octets_so : (os : List ℕ) → AreBelow 256 os → are_octets os ≡ true
octets_so [] h = refl
octets_so (o ∷ os) h = ap (λ b. b && are_octets os) (is_below o 256 h.0) ∙ octets_so os h.1

pub found_raw : (p inside : Path) (K : Value → Prog) (c : Cursor) (y : Value × Cursor) → Ends (ask_raw p inside K) c y
    → Found IsRaw (λ v. raw_fields p inside v) K c y
found_raw p inside K c y e =
    let question : Ask = extent (whole 1 16383 None) in
    let a = found_aligned p question (λ n. take inside octet n (λ os. K (raw os))) c y e in
    let n = a.made in
    let l : IsLength 1 16383 None n = whole_read 1 16383 None (answered_at pad 0 c) n a.stand.1.0 in
    found_after (asked p pad 0 ∷ asked p question n ∷ []) (λ os. (length os ≡ n) × AreBelow 256 os) IsRaw
    (λ os. run_field inside octet os ∷ []) (λ v. raw_fields p inside v)
    (λ os. K (raw os)) K c y (λ os. raw os) a.stand
    (found_take inside octet n (λ os. K (raw os)) (answered_at question n (answered_at pad 0 c)) y a.rest)
    (λ os h s. (omega (arith, h.0, l.low), omega (arith, h.0, l.high), octets_so os h.1))
    (λ os h s. ap (λ (m : ℕ). asked p pad 0 ∷ asked p question m ∷ run_field inside octet os ∷ []) (sym h.0))
    (λ os h. refl)
