-- What is read as an INTEGER or an index is one.
use Rattle.std.proofs.Common.{◌≡◌, ℕ, ◌+◌, ◌-◌, ◌*◌, ◌^◌, ◌<◌, ◌≤◌, nat_lt, cond, ◌&&◌, ◌||◌, Bool, true, false, [], ◌∷◌, ◌++◌, None, Ok, refl, sym, ap, subst, ◌∙◌, arith}
use Rattle.std.specs.Prelude.{ℤ, pos, negsuc, ◌+ℤ◌, nat_le}
use Rattle.std.specs.Int.Signed.{le_z}
use Rattle.std.proofs.lemmas.Int.{ints}
use Rattle.std.proofs.lemmas.Nat.{pow-add}
use Rattle.std.proofs.Math.Nat.{pow-le-pow_right}
use Rattle.std.proofs.lemmas.Bool.Decides.{nat_tests}
use Rattle.aper_defs.specs.declared.reason.Reason.TheVariants as reasons
use Rattle.aper_defs.specs.Values.{Value}
use Rattle.aper_defs.specs.Numbers.{unsigned_part, signed_octets_for, twos_complement, signed_number, is_signed, in_range, above}
use Rattle.aper_defs.specs.Fields.{Path, Ask, Field, signed, small, extent, pad, whole, asked}
use Rattle.aper_defs.specs.Fields as fields
use Rattle.aper_defs.specs.Parts.{number_fields, extension_fields, integer_fields, index_fields}
use Rattle.aper_defs.specs.Membership.{is_number_of, is_index_of}
use Rattle.aper_defs.specs.Questions.{Prog, ask, ask_integer, ask_integer_by, ask_index, ask_index_by}
use Rattle.aper_defs.specs.Reading.{Cursor, read, answered_at}
use Rattle.proof_aper.proofs.answers.Standing.{StandAll, after_all}
use Rattle.proof_aper.proofs.answers.NumberFacts.{by_cases, below, not_below, is_below, is_not_below, at_most, first_of_both, second_of_both}
use Rattle.proof_aper.proofs.values.Found.{Ends, Found, found_after, found_ask, Answered, answer_read, not_wrong}
use Rattle.proof_aper.proofs.values.FoundNumbers.{small_read, octets_few, found_aligned, found_number, found_extension}
use Rattle.proof_aper.proofs.values.FoundExtents.{IsLength, whole_read}

-- ---- numbers with signs
pub half : (k : ℕ) → 1 ≤ k → 2 ^ (8 * k) ≡ 2 * 2 ^ (8 * k - 1)
half k some = let e : 8 * k ≡ 1 + (8 * k - 1) = omega arith in ap (λ (m : ℕ). 2 ^ m) e ∙ pow-add 2 1 (8 * k - 1)

pub record IsOctets (k n : ℕ) (z : ℤ) : Type 0 where
  pub small_part : unsigned_part z < 2 ^ (8 * k - 1)
  pub back : twos_complement k z ≡ n

pub octets_again : (k n : ℕ) → 1 ≤ k → n < 2 ^ (8 * k) → IsOctets k n (signed_number k n)
octets_again k n some h =
    by_cases (nat_lt n (2 ^ (8 * k - 1))) (λ b. IsOctets k n (cond b (pos n) (negsuc (2 ^ (8 * k) - 1 - n))))
    (λ e. record { small_part = below n (2 ^ (8 * k - 1)) e; back = refl })
    (λ e. record {
      small_part = omega (arith, half k some, not_below n (2 ^ (8 * k - 1)) e);
      back = let g : 2 ^ (8 * k) - 1 - (2 ^
          (8 * k) - 1 - n) ≡ n = omega arith in g;
    })

-- octets of a number outside its range
pub record IsOutside (count : ℕ) (low high : ℤ) (n : ℕ) : Type 0 where
  pub least : count ≤ signed_octets_for (signed_number count n)
  pub out : in_range low high (signed_number count n) ≡ false
  pub fits : n < 2 ^ (8 * count)

negated : (b : Bool) → cond b false true ≡ true → b ≡ false
negated true e = cc
negated false e = refl

pub signed_read : (count : ℕ) (low high : ℤ) (c : Cursor) (n : ℕ) → read (signed count low high) c ≡ Ok n → IsOutside count low high n
signed_read count low high c n e =
    let a : Answered (signed count low high) c n = answer_read (signed count low high) c n e in
    let least = nat_le count (signed_octets_for (signed_number count a.m)) in
    let out = in_range low high (signed_number count a.m) in
    let both : (least && cond out false true) ≡ true = not_wrong (least && cond out false true) reasons.NotMinimal a.right in
    subst (IsOutside count low high) a.same (record {
      least = at_most count (signed_octets_for (signed_number count a.m)) (first_of_both least (cond out false true) both);
      out = negated out (second_of_both least (cond out false true) both);
      fits = a.small;
    })

record IsSpelledOut (count : ℕ) (low high : ℤ) (n : ℕ) (z : ℤ) : Type 0 where
  pub size : signed_octets_for z ≡ count
  pub back : twos_complement count z ≡ n
  pub signed_so : is_signed z ≡ true
  pub out : in_range low high z ≡ false

spelled_out : (count : ℕ) (low high : ℤ) (n : ℕ) → 1 ≤ count → count ≤ 8 → IsOutside count low high n
    → IsSpelledOut count low high n (signed_number count n)
spelled_out count low high n some few is =
    let z = signed_number count n in
    let o : IsOctets count n z = octets_again count n some is.fits in
    let u = unsigned_part z in
    let fitting : 8 * count - 1 ≤ 63 = omega arith in
    let up : 2 ^ (8 * count - 1) ≤ 2 ^ 63 = pow-le-pow_right {n = 2} (omega arith) fitting in
    let most : signed_octets_for z ≤ count = octets_few (2 * u) count some few (omega (arith, half count some, o.small_part)) in record {
      size = omega (arith, is.least, most);
      back = o.back;
      signed_so = is_below u (2 ^ 63) (omega (arith, o.small_part, up));
      out = is.out;
    }

pub extensible_is : (e : Bool) → (e ≡ false → (let b : Bool = true in b) ≡ false) → e ≡ true
extensible_is true h = refl
extensible_is false h = cc (h refl)

integer_fields_out : (p : Path) (low high : ℤ) (extensible : Bool) (z : ℤ) (count n : ℕ) → IsSpelledOut count low high n z
    → extension_fields p extensible true ++ asked p pad 0 ∷ asked p (extent (whole 1 8 None)) count ∷ asked p (signed count low high) n ∷ []
    ≡ integer_fields p low high extensible z
unfolding integer_fields
integer_fields_out p low high extensible z count n s =
    let octets = λ (k m : ℕ). asked p pad 0 ∷ asked p (extent (whole 1 8 None)) k ∷ asked p (signed k low high) m ∷ [] in
    let g : octets (signed_octets_for z) (twos_complement (signed_octets_for z) z) ≡ octets count n =
    ap (λ k. octets k (twos_complement k z)) s.size ∙ ap (octets count) s.back in
    sym (ap (λ b. extension_fields p extensible (cond b false true) ++ cond b (number_fields p fields.value (above low high) (above low z))
    (octets (signed_octets_for z) (twos_complement (signed_octets_for z) z))) s.out ∙ ap (λ fs. extension_fields p extensible true ++ fs) g)

integer_fields_in : (p : Path) (low high : ℤ) (extensible : Bool) (n : ℕ) → in_range low high (low +ℤ pos n) ≡ true
    → above low (low +ℤ pos n) ≡ n
    → extension_fields p extensible false ++ number_fields p fields.value (above low high) n ≡ integer_fields p low high extensible
    (low +ℤ pos n)
unfolding integer_fields
integer_fields_in p low high extensible n h e =
    let z = low +ℤ pos n in
    sym (ap (λ b. extension_fields p extensible (cond b false true) ++ cond b (number_fields p fields.value (above low high) (above low z))
    (asked p pad 0 ∷ asked p (extent (whole 1 8 None)) (signed_octets_for z) ∷ asked p (signed (signed_octets_for z) low high)
    (twos_complement (signed_octets_for z) z) ∷ [])) h ∙ ap (λ m. extension_fields p extensible false ++ number_fields p fields.value
    (above low high) m) e)

pub in_its_range : (low high : ℤ) (n : ℕ) → le_z low high ≡ true → n ≤ above low high
    → (in_range low high (low +ℤ pos n) ≡ true) × (above low (low +ℤ pos n) ≡ n)
in_its_range low high n b h = (
  let g : in_range low high (low +ℤ pos n) ≡ true = grind (arith, ints) in g,
  let g : above low
      (low +ℤ pos n) ≡ n = grind (arith, ints) in g,
)

-- octets of a number outside its range, and what is asked for them
found_outside : (p : Path) (low high : ℤ) (K : ℤ → Prog) (c : Cursor) (y : Value × Cursor) → Ends (ask_integer_by p low high K true) c y
    → Found (λ (x : ℕ × ℕ). IsSpelledOut x.0 low high x.1 (signed_number x.0 x.1))
    (λ x. asked p pad 0 ∷ asked p (extent (whole 1 8 None)) x.0 ∷ asked p (signed x.0 low high) x.1 ∷ []) (λ x. K
    (signed_number x.0 x.1)) c y
found_outside p low high K c y e =
    let K1 = λ (count : ℕ). ask p (signed count low high) (λ n. K (signed_number count n)) in
    let a = found_aligned p (extent (whole 1 8 None)) K1 c y e in
    let count = a.made in
    let l : IsLength 1 8 None count = whole_read 1 8 None (answered_at pad 0 c) count a.stand.1.0 in
    let d : Cursor = answered_at (extent (whole 1 8 None)) count (answered_at pad 0 c) in
    let b = found_ask p (signed count low high) (λ n. K (signed_number count n)) d y a.rest in record {
      made = (count, b.made);
      is = spelled_out count low high b.made l.low l.high (signed_read count low high d b.made b.is);
      stand = (a.stand.0, (a.stand.1.0, b.stand));
      rest = b.rest;
    }

pub found_integer : (p : Path) (low high : ℤ) (extensible : Bool) (K : ℤ → Prog) (c : Cursor) (y : Value × Cursor)
    → le_z low high ≡ true → above low high < 2 ^ 64 → Ends (ask_integer p low high extensible K) c y
    → Found (λ z. is_number_of low high extensible z ≡ true) (λ z. integer_fields p low high extensible z) K c y
unfolding ask_integer
found_integer p low high extensible K c y ordered bound e =
    let a = found_extension p extensible (ask_integer_by p low high K) c y e in go a.made a.is a.stand a.rest
  where
    go : (b : Bool) → (extensible ≡ false → b ≡ false) → StandAll (extension_fields p extensible b) c
        → Ends (ask_integer_by p low high K b) (after_all (extension_fields p extensible b) c) y
        → Found (λ z. is_number_of low high extensible z ≡ true) (λ z. integer_fields p low high extensible z) K c y
    go false h s e2 =
        let d = after_all (extension_fields p extensible false) c in
        found_after (extension_fields p extensible false) (λ n. n ≤ above low high) _ (λ n. number_fields p fields.value
        (above low high) n) _ (λ n. K (low +ℤ pos n)) K c y
        (λ n. low +ℤ pos n) s (found_number p fields.value (above low high) (λ n. K (low +ℤ pos n)) d y bound e2)
        (λ n k g. ap (λ b. b || (extensible && is_signed (low +ℤ pos n))) (in_its_range low high n ordered k).0)
        (λ n k g. integer_fields_in p low high extensible n (in_its_range low high n ordered k).0 (in_its_range low high n ordered k).1)
        (λ n k. refl)
    go true h s e2 =
        let d = after_all (extension_fields p extensible true) c in
        found_after (extension_fields p extensible true) (λ (x : ℕ × ℕ). IsSpelledOut x.0 low high x.1 (signed_number x.0 x.1)) _
        (λ x. asked p pad 0 ∷ asked p (extent (whole 1 8 None)) x.0 ∷ asked p (signed x.0 low high) x.1 ∷ []) _ (λ x. K
        (signed_number x.0 x.1)) K c y
        (λ x. signed_number x.0 x.1) s (found_outside p low high K d y e2)
        (λ x k g. ap (λ b. b || (extensible && is_signed (signed_number x.0 x.1))) k.out
        ∙ ap (λ b. b && is_signed (signed_number x.0 x.1)) (extensible_is extensible h) ∙ k.signed_so)
        (λ x k g. integer_fields_out p low high extensible (signed_number x.0 x.1) x.0 x.1 k)
        (λ x k. refl)

pub index_fields_are : (p : Path) (count : ℕ) (extensible : Bool) (i : ℕ) (b d : Bool) → nat_le count i ≡ b → nat_lt i count ≡ d
    → extension_fields p extensible b ++ cond d (number_fields p fields.index (count - 1) i) (asked p (small fields.index) (i - count) ∷ [])
    ≡ index_fields p count extensible i
unfolding index_fields
index_fields_are p count extensible i b d e f =
    sym (ap (λ x. extension_fields p extensible x ++ cond (nat_lt i count) (number_fields p fields.index (count - 1) i) (asked p
    (small fields.index) (i - count) ∷ [])) e
    ∙ ap (λ x. extension_fields p extensible b ++ cond x (number_fields p fields.index (count - 1) i) (asked p (small fields.index)
    (i - count) ∷ [])) f)

pub found_index : (p : Path) (count : ℕ) (extensible : Bool) (K : ℕ → Prog) (c : Cursor) (y : Value × Cursor) → 1 ≤ count → count ≤ 256
    → Ends (ask_index p count extensible K) c y
    → Found (λ i. is_index_of count extensible i ≡ true) (λ i. index_fields p count extensible i) K c y
unfolding ask_index
found_index p count extensible K c y some few e =
    let a = found_extension p extensible (ask_index_by p count K) c y e in go a.made a.is a.stand a.rest
  where
    go : (b : Bool) → (extensible ≡ false → b ≡ false) → StandAll (extension_fields p extensible b) c
        → Ends (ask_index_by p count K b) (after_all (extension_fields p extensible b) c) y
        → Found (λ i. is_index_of count extensible i ≡ true) (λ i. index_fields p count extensible i) K c y
    go false h s e2 =
        found_after (extension_fields p extensible false) (λ i. i ≤ count - 1) _ (λ i. number_fields p fields.index (count - 1) i) _ K K c y
        (λ i. i) s (found_number p fields.index (count - 1) K (after_all (extension_fields p extensible false) c) y (omega arith) e2)
        (λ i k g. ap (λ b. b || (extensible && nat_lt i (count + 64))) (is_below i count (omega arith)))
        (λ i k g. index_fields_are p count extensible i false true (let u : nat_le count i ≡ false = grind (arith, nat_tests) in u)
        (is_below i count (omega arith)))
        (λ i k. refl)
    go true h s e2 =
        let d = after_all (extension_fields p extensible true) c in
        found_after (extension_fields p extensible true) (λ n. read (small fields.index) d ≡ Ok n) _ (λ n. asked p
        (small fields.index) n ∷ []) _ (λ n. K (count + n)) K c y
        (λ n. count + n) s (found_ask p (small fields.index) (λ n. K (count + n)) d y e2)
        (λ n k g. ap (λ b. b || (extensible && nat_lt (count + n) (count + 64))) (is_not_below (count + n) count (omega arith))
        ∙ ap (λ b. b && nat_lt (count + n) (count + 64)) (extensible_is extensible h)
        ∙ is_below (count + n) (count + 64) (omega (arith, small_read fields.index d n k)))
        (λ n k g. ap (λ (m : ℕ). extension_fields p extensible true ++ asked p (small fields.index) m ∷ [])
        (let u : n ≡ count + n - count = omega arith in u)
        ∙ index_fields_are p count extensible (count + n) true false (let u : nat_le count (count + n) ≡ true = grind
        (arith, nat_tests) in u)
        (is_not_below (count + n) count (omega arith)))
        (λ n k. refl)
