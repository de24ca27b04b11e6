-- What is read as a string or a count is one.
use Rattle.std.proofs.Common.{◌≡◌, ℕ, zero, suc, ◌+◌, ◌-◌, ◌*◌, ◌/◌, ◌^◌, ◌<◌, ◌≤◌, ◌==◌, nat_lt, cond, ◌&&◌, ◌||◌, Bool, true, false, List, [], ◌∷◌, ◌++◌, length, map, take as first, drop, None, Some, Option, Result, Ok, Err, refl, sym, ap, subst, ◌∙◌, arith}
use Rattle.std.specs.Prelude.{nat_le}
use Rattle.std.specs.List.{list_all}
use Rattle.std.proofs.lemmas.List.{length-append, length-drop, take_at, drop_at}
use Rattle.asn1_syntax.specs.declared.types.definition.Size.{Size}
use Rattle.aper_defs.specs.declared.reason.Reason.{Reason}
use Rattle.aper_defs.specs.declared.reason.Reason.TheVariants as reasons
use Rattle.aper_defs.specs.Values.{Value}
use Rattle.aper_defs.specs.Fields.{Path, Ask, Field, RunUnit, bit, octet, character, extent, pad, whole, part, asked, run as run_field}
use Rattle.aper_defs.specs.Fields as fields
use Rattle.aper_defs.specs.Bits.{part_units, unit_width}
use Rattle.aper_defs.specs.Parts.{Content, of_bits, of_octets, of_characters, unit_fields, pad_limit, in_size, part_of_fields, next_part, part_fields, all_part_fields, sized_fields, string_fields, count_fields, extension_fields, number_fields}
use Rattle.aper_defs.specs.Membership.{is_count_of, is_printable}
use Rattle.aper_defs.specs.Bounds.{IsSizeBounded}
use Rattle.aper_defs.specs.Questions.{Prog, ask, take, ask_units, ask_characters, ask_parts, ask_all_parts, turn_limit, ask_sized, ask_string, ask_string_by, ask_count, ask_count_by, ask_number}
use Rattle.aper_defs.specs.Reading.{Cursor, read, read_units, goes_on, moved_by, answered_at, is_inside, run}
use Rattle.proof_aper.proofs.answers.Standing.{StandAll, after_all}
use Rattle.proof_aper.proofs.answers.NumberFacts.{by_cases, below, not_below, is_below, is_not_below, is_at_most, first_of_both, second_of_both}
use Rattle.proof_aper.proofs.answers.ForthStrings.{next_some}
use Rattle.proof_aper.proofs.places.Placed.{AreBelow}
use Rattle.proof_aper.proofs.places.PlacedStrings.{AreUnits}
use Rattle.proof_aper.proofs.values.Found.{Ends, Found, found_after, found_ask, Answered, answer_read, not_wrong}
use Rattle.proof_aper.proofs.values.FoundNumbers.{Any, pad_read, found_aligned, found_by, found_number, found_extension}
use Rattle.proof_aper.proofs.values.FoundExtents.{IsLength, whole_read, PartLength, last, more, part_read}
use Rattle.proof_aper.proofs.values.FoundIndices.{extensible_is}
use Rattle.proof_aper.proofs.values.FoundBits.{units_are}

-- ---- units
pub found_take : (p : Path) (unit : RunUnit) (count : ℕ) (K : List ℕ → Prog) (c : Cursor) (y : Value × Cursor)
    → Ends (take p unit count K) c y
    → Found (λ us. (length us ≡ count) × AreBelow (2 ^ unit_width unit) us) (λ us. run_field p unit us ∷ []) K c y
unfolding run
found_take p unit count K c y e = go (read_units unit count c) refl e
  where
    go : (r : Result (List ℕ) Reason) → read_units unit count c ≡ r
        → goes_on p c r (λ us. run (K us) (moved_by (unit_width unit * count) c)) ≡ Ok y
        → Found (λ us. (length us ≡ count) × AreBelow (2 ^ unit_width unit) us) (λ us. run_field p unit us ∷ []) K c y
    go (Ok us) is h =
        let r = units_are unit count c us is in record {
          made = us;
          is = (r.count-is, r.below);
          stand = (subst (λ (n : ℕ). read_units unit n c ≡ Ok us) (sym r.count-is) is, tt);
          rest = subst (λ (n : ℕ). run (K us) (moved_by (unit_width unit * n) c) ≡ Ok y) (sym r.count-is) h;
        }
    go (Err reason) is h = cc

pub character_read : (c : Cursor) (n : ℕ) → read character c ≡ Ok n → is_printable n ≡ true
character_read c n e =
    let a : Answered character c n = answer_read character c n e in subst (λ m. is_printable m ≡ true) a.same (not_wrong
    (is_printable a.m) reasons.Character a.right)

found_characters : (p : Path) (count : ℕ) (K : List ℕ → Prog) (c : Cursor) (y : Value × Cursor) → Ends (ask_characters p count K) c y
    → Found (λ us. (length us ≡ count) × (list_all is_printable us ≡ true)) (λ us. map (λ x. asked p character x) us) K c y
found_characters p zero K c y e = record { made = []; is = (refl, refl); stand = tt; rest = e }
found_characters p (suc count) K c y e =
    let a = found_ask p character (λ x. ask_characters p count (λ xs. K (x ∷ xs))) c y e in
    let x = a.made in
    found_after (asked p character x ∷ []) (λ us. (length us ≡ count) × (list_all is_printable us ≡ true)) _ (λ us. map
    (λ z. asked p character z) us) _
    (λ xs. K (x ∷ xs)) K c y (λ xs. x ∷ xs) a.stand (found_characters p count (λ xs. K (x ∷ xs)) (answered_at character x c) y a.rest)
    (λ us h s. (ap suc h.0, ap (λ b. b && list_all is_printable us) (character_read c x a.is) ∙ h.1)) (λ us h s. refl) (λ us h. refl)

abbrev pub AreSo : Content → ℕ → List ℕ → Type 0
AreSo content count us = (length us ≡ count) × AreUnits content us

pub found_units : (p : Path) (content : Content) (count : ℕ) (K : List ℕ → Prog) (c : Cursor) (y : Value × Cursor)
    → Ends (ask_units p content count K) c y
    → Found (AreSo content count) (λ us. unit_fields p content us) K c y
found_units p of_bits count K c y e = found_take p bit count K c y e
found_units p of_octets count K c y e = found_take p octet count K c y e
found_units p of_characters count K c y e = found_characters p count K c y e

-- ---- units joined
below_joined : (n : ℕ) (xs ys : List ℕ) → AreBelow n xs → AreBelow n ys → AreBelow n (xs ++ ys)
below_joined n [] ys h k = k
below_joined n (x ∷ xs) ys h k = (h.0, below_joined n xs ys h.1 k)

printable_joined : (xs ys : List ℕ) → list_all is_printable xs ≡ true → list_all is_printable ys ≡ true
    → list_all is_printable (xs ++ ys) ≡ true
printable_joined [] ys h k = k
printable_joined (x ∷ xs) ys h k =
    ap (λ b. b && list_all is_printable (xs ++ ys)) (first_of_both (is_printable x) (list_all is_printable xs) h)
    ∙ printable_joined xs ys (second_of_both (is_printable x) (list_all is_printable xs) h) k

pub units_joined : (content : Content) (xs ys : List ℕ) → AreUnits content xs → AreUnits content ys → AreUnits content (xs ++ ys)
units_joined of_bits xs ys h k = below_joined 2 xs ys h k
units_joined of_octets xs ys h k = below_joined 256 xs ys h k
units_joined of_characters xs ys h k = printable_joined xs ys h k

-- ---- strings in parts
-- what comes in parts, after so many units, the last of them in a part of so many
record AreParts (content : Content) (outside : Option Size) (before previous : ℕ) (us : List ℕ) : Type 0 where
  pub units : AreUnits content us
  pub past : is_inside outside (before + length us) ≡ false
  pub full : part_units ≤ length us → 65536 ≤ previous

unfoldable pub whole_parts : Path → Content → Option Size → ℕ → ℕ → List ℕ → List Field
whole_parts p content outside before previous us = part_fields p content outside (length us / part_units) before previous us

pub last_fields : (p : Path) (content : Content) (outside : Option Size) (turns before previous : ℕ) (us : List ℕ) → length us < part_units
    → part_fields p content outside turns before previous us ≡ part_of_fields p content outside before previous us
unfolding part_fields
last_fields p content outside zero before previous us h = refl
last_fields p content outside (suc turns) before previous us h =
    ap (λ b. cond b (part_of_fields p content outside before previous us) (part_of_fields p content outside before previous (first
    (next_part (length us)) us)
    ++ part_fields p content outside turns (before + next_part (length us)) (next_part (length us)) (drop (next_part (length us)) us)))
    (is_below (length us) part_units h)

long_fields : (p : Path) (content : Content) (outside : Option Size) (turns before previous : ℕ) (us : List ℕ) → part_units ≤ length us
    → part_fields p content outside (suc turns) before previous us ≡ part_of_fields p content outside before previous (first (next_part
    (length us)) us)
    ++ part_fields p content outside turns (before + next_part (length us)) (next_part (length us)) (drop (next_part (length us)) us)
unfolding part_fields
long_fields p content outside turns before previous us h =
    ap (λ b. cond b (part_of_fields p content outside before previous us) (part_of_fields p content outside before previous (first
    (next_part (length us)) us)
    ++ part_fields p content outside turns (before + next_part (length us)) (next_part (length us)) (drop (next_part (length us)) us)))
    (is_not_below (length us) part_units h)

-- as many turns as there are units are enough
turns_same : (p : Path) (content : Content) (outside : Option Size) (a b before previous : ℕ) (us : List ℕ)
    → length us < part_units * (a + 1) → length us < part_units * (b + 1)
    → part_fields p content outside a before previous us ≡ part_fields p content outside b before previous us
turns_same p content outside zero b before previous us h k =
    last_fields p content outside zero before previous us (omega arith) ∙ sym (last_fields p content outside b before previous us
    (omega arith))
turns_same p content outside (suc a) zero before previous us h k =
    last_fields p content outside (suc a) before previous us (omega arith) ∙ sym (last_fields p content outside zero before previous us
    (omega arith))
turns_same p content outside (suc a) (suc b) before previous us h k =
    by_cases (nat_lt (length us) part_units) (λ x. part_fields p content outside
    (suc a) before previous us ≡ part_fields p content outside (suc b) before previous us)
    (λ e. let short = below (length us) part_units e in
    last_fields p content outside (suc a) before previous us short ∙ sym (last_fields p content outside (suc b) before previous us short))
    (λ e. let long = not_below (length us) part_units e in
    let count = next_part (length us) in
    let bounds = next_some (length us) long in
    long_fields p content outside a before previous us long
    ∙ ap (λ fs. part_of_fields p content outside before previous (first count us) ++ fs)
    (turns_same p content outside a b (before + count) count (drop count us) (omega (arith, length-drop count us, bounds.0, bounds.1))
    (omega (arith, length-drop count us, bounds.0, bounds.1)))
    ∙ sym (long_fields p content outside b before previous us long))

next_is : (n l count : ℕ) → n ≡ part_units * count → 1 ≤ count → count ≤ 4 → (part_units ≤ l → 65536 ≤ n) → next_part (n + l) ≡ n
next_is n l count size some few full = by_cases (nat_lt l part_units) (λ b. next_part (n + l) ≡ n)
    (λ e. let short : l < part_units = below l part_units e in omega (arith, size))
    (λ e. let big : 65536 ≤ n = full (not_below l part_units e) in omega (arith, size))

pub further_fields : (p : Path) (content : Content) (outside : Option Size) (before previous count : ℕ) (us others : List ℕ)
    → length us ≡ part_units * count → 1 ≤ count → count ≤ 4 → (part_units ≤ length others → 65536 ≤ length us)
    → part_of_fields p content outside before previous us ++ whole_parts p content outside (before + length us) (length us) others
    ≡ whole_parts p content outside before previous (us ++ others)
unfolding whole_parts
further_fields p content outside before previous count us others size some few full =
    let n = length us in
    let l = length others in
    let all = us ++ others in
    let sum : length all ≡ n + l = length-append us others in
    let t = count - 1 + l / part_units in
    let turns : length all / part_units ≡ suc t = omega (arith, sum, size, some) in
    let next : next_part (length all) ≡ n = ap next_part sum ∙ next_is n l count size some few full in
    let tail = λ (k : ℕ). λ (xs ys : List ℕ). part_of_fields p content outside before previous xs ++ part_fields p content outside t
    (before + k) k ys in
    sym (ap (λ (k : ℕ). part_fields p content outside k before previous all) turns
    ∙ long_fields p content outside t before previous all (omega (arith, sum, size, some))
    ∙ ap (λ (k : ℕ). tail k (first k all) (drop k all)) next
    ∙ ap (λ (xs : List ℕ). tail n xs (drop n all)) (take_at us others n refl)
    ∙ ap (λ (ys : List ℕ). tail n us ys) (drop_at us others n refl)
    ∙ ap (λ fs. part_of_fields p content outside before previous us ++ fs)
    (turns_same p content outside t (l / part_units) (before + n) n others (omega arith) (omega arith)))

-- what is asked after the units of a part
part_next : Path → Content → Option Size → ℕ → ℕ → (List ℕ → Prog) → ℕ → List ℕ → Prog
part_next p content outside tries before K n us =
    cond (nat_lt n part_units) (K us) (ask_parts p content outside tries (before + n) n (λ others. K (us ++ others)))

part_found : (p : Path) (content : Content) (outside : Option Size) (tries before previous : ℕ) (K : List ℕ
    → Prog) (c : Cursor) (y : Value × Cursor) (us : List ℕ)
    → ((b q : ℕ) (L : List ℕ → Prog) (d : Cursor) → Ends (ask_parts p content outside tries b q L) d y
    → Found (AreParts content outside b q) (whole_parts p content outside b q) L d y)
    → AreUnits content us → PartLength before previous outside (length us)
    → StandAll (part_of_fields p content outside before previous us) c
    → Ends (part_next p content outside tries before K (length us) us) (after_all (part_of_fields p content outside before previous us) c) y
    → Found (AreParts content outside before previous) (whole_parts p content outside before previous) K c y
unfolding part_next whole_parts
part_found p content outside tries before previous K c y us others_found are (last short past) stand e =
    let d = after_all (part_of_fields p content outside before previous us) c in
    let go_on : Ends (K us) d y =
    subst (λ b. Ends (cond b (K us) (ask_parts p content outside tries (before + length us) (length us) (λ others. K (us
    ++ others)))) d y) (is_below (length us) part_units short) e in
    let same_fields = last_fields p content outside (length us / part_units) before previous us short in record {
      made = us;
      is = record { units = are; past = past; full = λ h. absurd (omega arith) };
      stand = subst (λ fs. StandAll fs c) (sym same_fields) stand;
      rest = subst (λ fs. Ends (K us) (after_all fs c) y) (sym same_fields) go_on;
    }
part_found p content outside tries before previous K c y us others_found are (more count size some few full) stand e =
    let n = length us in
    let d = after_all (part_of_fields p content outside before previous us) c in
    let go_on : Ends (ask_parts p content outside tries (before + n) n (λ others. K (us ++ others))) d y =
    subst (λ b. Ends (cond b (K us) (ask_parts p content outside tries (before + n) n (λ others. K (us ++ others)))) d y)
    (is_not_below n part_units (omega (arith, size, some))) e in
    found_after (part_of_fields p content outside before previous us) (AreParts content outside (before + n) n)
    (AreParts content outside before previous)
    (whole_parts p content outside (before + n) n) (whole_parts p content outside before previous) (λ others. K (us ++ others)) K c y
    (λ others. us ++ others)
    stand (others_found (before + n) n (λ others. K (us ++ others)) d go_on)
    (λ others h s. record {
      units = units_joined content us others are h.units;
      past = ap (is_inside outside) (let g : before + length (us ++ others) ≡ before + n + length others = omega
          (arith, length-append us others) in g) ∙ h.past;
      full = λ long. full;
    })
    (λ others h s. further_fields p content outside before previous count us others size some few h.full)
    (λ others h. refl)

found_parts : (p : Path) (content : Content) (outside : Option Size) (tries before previous : ℕ) (K : List ℕ
    → Prog) (c : Cursor) (y : Value × Cursor)
    → Ends (ask_parts p content outside tries before previous K) c y
    → Found (AreParts content outside before previous) (whole_parts p content outside before previous) K c y
unfolding ask_parts part_next run
found_parts p content outside zero before previous K c y e = cc
found_parts p content outside (suc tries) before previous K c y e =
    let question : Ask = extent (part before previous outside) in
    let a = found_aligned p question (λ n. ask_units p content n (part_next p content outside tries before K n)) c y e in
    let n = a.made in
    let d : Cursor = answered_at question n (answered_at pad 0 c) in
    let b = found_units p content n (part_next p content outside tries before K n) d y a.rest in
    let us = b.made in
    let l : PartLength before previous outside n = part_read before previous outside (answered_at pad 0 c) n a.stand.1.0 in
    part_found p content outside tries before previous K c y us (λ x q L d2 e2. found_parts p content outside tries x q L d2 y e2) b.is.1
    (subst (PartLength before previous outside) (sym b.is.0) l)
    (subst (λ (m : ℕ). StandAll (asked p pad 0 ∷ asked p question m ∷ unit_fields p content us) c) (sym b.is.0) (
      a.stand.0,
      (a.stand.1.0, b.stand),
    ))
    (subst (λ (m : ℕ). Ends (part_next p content outside tries before K m us) (after_all
    (asked p pad 0 ∷ asked p question m ∷ unit_fields p content us) c) y) (sym b.is.0) b.rest)

-- ---- strings of a size
found_padded_units : (p : Path) (content : Content) (count : ℕ) (K : List ℕ → Prog) (c : Cursor) (y : Value × Cursor)
    → Ends (ask p pad (λ z. ask_units p content count K)) c y
    → Found (AreSo content count) (λ us. asked p pad 0 ∷ unit_fields p content us) K c y
found_padded_units p content count K c y e =
    let a = found_ask p pad (λ z. ask_units p content count K) c y e in
    let none : a.made ≡ 0 = pad_read c a.made a.is in
    found_after (asked p pad 0 ∷ []) (AreSo content count) (AreSo content count) (λ us. unit_fields p content us) _ K K c y (λ us. us)
    (subst (λ n. read pad c ≡ Ok n) none a.is, tt) (found_units p content count K (answered_at pad 0 c) y a.rest)
    (λ us h s. h) (λ us h s. refl) (λ us h. refl)

pub in_the_root : (size : Size) (n : ℕ) → size.low ≤ n → n ≤ size.high → in_size size n ≡ true
in_the_root size n h k = ap (λ b. b && nat_le n size.high) (is_at_most size.low n h) ∙ is_at_most n size.high k

abbrev InRoot : Content → Size → List ℕ → Type 0
InRoot content size us = (in_size size (length us) ≡ true) × AreUnits content us

found_told : (p : Path) (content : Content) (size : Size) (K : List ℕ → Prog) (c : Cursor) (y : Value × Cursor) → size.low ≤ size.high
    → size.high < 65536
    → Ends (ask_number p fields.length (size.high - size.low) (λ n. ask p pad (λ z. ask_units p content (size.low + n) K))) c y
    → Found (InRoot content size) (λ us. number_fields p fields.length (size.high - size.low) (length us - size.low)
    ++ asked p pad 0 ∷ unit_fields p content us) K c y
found_told p content size K c y ordered few e =
    let span = size.high - size.low in
    let a = found_number p fields.length span (λ n. ask p pad (λ z. ask_units p content (size.low + n) K)) c y (omega arith) e in
    let n = a.made in
    found_after (number_fields p fields.length span n) (AreSo content (size.low + n)) (InRoot content size)
    (λ us. asked p pad 0 ∷ unit_fields p content us) _ K K c y (λ us. us)
    a.stand (found_padded_units p content (size.low + n) K (after_all (number_fields p fields.length span n) c) y a.rest)
    (λ us h s. (in_the_root size (length us) (omega (arith, h.0)) (omega (arith, h.0, a.is)), h.1))
    (λ us h s. ap (λ (m : ℕ). number_fields p fields.length span m ++ asked p pad 0 ∷ unit_fields p content us)
    (let g : n ≡ length us - size.low = omega (arith, h.0) in g))
    (λ us h. refl)

found_fixed : (p : Path) (content : Content) (size : Size) (K : List ℕ → Prog) (c : Cursor) (y : Value × Cursor) → size.low ≤ size.high
    → Ends (cond (nat_lt (pad_limit content) size.low) (ask p pad (λ z. ask_units p content size.low K))
    (ask_units p content size.low K)) c y
    → Found (InRoot content size) (λ us. cond (nat_lt (pad_limit content) size.low) (asked p pad 0 ∷ unit_fields p content us)
    (unit_fields p content us)) K c y
found_fixed p content size K c y ordered e =
    found_after [] (AreSo content size.low) (InRoot content size) (λ us. cond (nat_lt (pad_limit content) size.low)
    (asked p pad 0 ∷ unit_fields p content us) (unit_fields p content us)) _ K K c y (λ us. us)
    tt (found_by (AreSo content size.low) (nat_lt (pad_limit content) size.low) _ _ _ _ K c y
    (found_padded_units p content size.low K c y) (found_units p content size.low K c y) e)
    (λ us h s. (in_the_root size (length us) (omega (arith, h.0)) (omega (arith, h.0)), h.1)) (λ us h s. refl) (λ us h. refl)

found_sized : (p : Path) (content : Content) (size : Size) (K : List ℕ → Prog) (c : Cursor) (y : Value × Cursor) → size.low ≤ size.high
    → size.high < 65536
    → Ends (ask_sized p content size K) c y
    → Found (InRoot content size) (λ us. sized_fields p content size us) K c y
found_sized p content size K c y ordered few =
    found_by (InRoot content size) (size.low == size.high) _ _ _ _ K c y (found_fixed p content size K c y ordered)
    (found_told p content size K c y ordered few)

found_all_parts : (p : Path) (content : Content) (outside : Option Size) (K : List ℕ → Prog) (c : Cursor) (y : Value × Cursor)
    → Ends (ask_all_parts p content outside K) c y
    → Found (λ us. (is_inside outside (length us) ≡ false) × AreUnits content us) (λ us. all_part_fields p content outside us) K c y
unfolding whole_parts
found_all_parts p content outside K c y e =
    found_after [] (AreParts content outside 0 (4 * part_units)) _ (λ us. all_part_fields p content outside us) _ K K c y (λ us. us) tt
    (found_parts p content outside turn_limit 0 (4 * part_units) K c y e)
    (λ us h s. (ap (is_inside outside) (let g : length us ≡ 0 + length us = omega arith in g) ∙ h.past, h.units)) (λ us h s. refl)
    (λ us h. refl)

string_fields_are : (p : Path) (content : Content) (size : Size) (us : List ℕ) (b : Bool) → in_size size (length us) ≡ b
    → extension_fields p size.extensible (cond b false true) ++ cond b (sized_fields p content size us) (all_part_fields p content
    (Some size) us)
    ≡ string_fields p content (Some size) us
unfolding string_fields
string_fields_are p content size us b e =
    ap (λ x. extension_fields p size.extensible (cond x false true) ++ cond x (sized_fields p content size us) (all_part_fields p content
    (Some size) us)) (sym e)

abbrev pub IsString : Content → Option Size → List ℕ → Type 0
IsString content size us = (is_count_of None size (length us) ≡ true) × AreUnits content us

pub found_string : (p : Path) (content : Content) (size : Option Size) (K : List ℕ → Prog) (c : Cursor) (y : Value × Cursor)
    → IsSizeBounded size
    → Ends (ask_string p content size K) c y → Found (IsString content size) (λ us. string_fields p content size us) K c y
unfolding ask_string string_fields
found_string p content None K c y bound e =
    found_after [] (λ us. (is_inside None (length us) ≡ false) × AreUnits content us) (IsString content None)
    (λ us. all_part_fields p content None us) _ K K c y (λ us. us) tt
    (found_all_parts p content None K c y e) (λ us h s. (refl, h.1)) (λ us h s. refl) (λ us h. refl)
found_string p content (Some size) K c y bound e =
    let a = found_extension p size.extensible (ask_string_by p content size K) c y e in go a.made a.is a.stand a.rest
  where
    go : (b : Bool) → (size.extensible ≡ false → b ≡ false) → StandAll (extension_fields p size.extensible b) c
        → Ends (ask_string_by p content size K b) (after_all (extension_fields p size.extensible b) c) y
        → Found (IsString content (Some size)) (λ us. string_fields p content (Some size) us) K c y
    go false h s e2 =
        found_after (extension_fields p size.extensible false) (InRoot content size) (IsString content (Some size))
        (λ us. sized_fields p content size us) _ K K c y (λ us. us) s
        (found_sized p content size K (after_all (extension_fields p size.extensible false) c) y bound.0 bound.1 e2)
        (λ us k g. (ap (λ b. b || size.extensible) k.0, k.1)) (λ us k g. string_fields_are p content size us true k.0) (λ us k. refl)
    go true h s e2 =
        found_after (extension_fields p size.extensible true) (λ us. (in_size size (length us) ≡ false) × AreUnits content us)
        (IsString content (Some size))
        (λ us. all_part_fields p content (Some size) us) _ K K c y (λ us. us) s
        (found_all_parts p content (Some size) K (after_all (extension_fields p size.extensible true) c) y e2)
        (λ us k g. (ap (λ b. b || size.extensible) k.0 ∙ extensible_is size.extensible h, k.1))
        (λ us k g. string_fields_are p content size us false k.0) (λ us k. refl)

-- ---- counts
count_fields_are : (p : Path) (size : Size) (n : ℕ) (b : Bool) → in_size size n ≡ b
    → extension_fields p size.extensible (cond b false true) ++ cond b (number_fields p fields.length (size.high - size.low)
    (n - size.low)) (asked p pad 0 ∷ asked p (extent (whole 0 16383 (Some size))) n ∷ [])
    ≡ count_fields p (Some size) n
unfolding count_fields
count_fields_are p size n b e =
    ap (λ x. extension_fields p size.extensible (cond x false true) ++ cond x (number_fields p fields.length (size.high - size.low)
    (n - size.low)) (asked p pad 0 ∷ asked p (extent (whole 0 16383 (Some size))) n ∷ [])) (sym e)

pub found_count : (p : Path) (size : Option Size) (K : ℕ → Prog) (c : Cursor) (y : Value × Cursor) → IsSizeBounded size
    → Ends (ask_count p size K) c y
    → Found (λ n. is_count_of (Some 16383) size n ≡ true) (λ n. count_fields p size n) K c y
unfolding ask_count count_fields
found_count p None K c y bound e =
    found_after [] Any _ (λ n. asked p pad 0 ∷ asked p (extent (whole 0 16383 None)) n ∷ []) _ K K c y (λ n. n) tt
    (found_aligned p (extent (whole 0 16383 None)) K c y e)
    (λ n h s. is_at_most n 16383 (whole_read 0 16383 None (answered_at pad 0 c) n s.1.0).high) (λ n h s. refl) (λ n h. refl)
found_count p (Some size) K c y bound e =
    let a = found_extension p size.extensible (ask_count_by p size K) c y e in go a.made a.is a.stand a.rest
  where
    go : (b : Bool) → (size.extensible ≡ false → b ≡ false) → StandAll (extension_fields p size.extensible b) c
        → Ends (ask_count_by p size K b) (after_all (extension_fields p size.extensible b) c) y
        → Found (λ n. is_count_of (Some 16383) (Some size) n ≡ true) (λ n. count_fields p (Some size) n) K c y
    go false h s e2 =
        let span = size.high - size.low in
        let root = λ (n : ℕ). λ (k : n ≤ span). in_the_root size (size.low + n) (omega arith) (omega (arith, bound.0)) in
        found_after (extension_fields p size.extensible false) (λ n. n ≤ span) _ (λ n. number_fields p fields.length span n) _ (λ n. K
        (size.low + n)) K c y (λ n. size.low + n) s
        (found_number p fields.length span (λ n. K (size.low + n)) (after_all (extension_fields p size.extensible false) c) y (omega
        (arith, bound.1)) e2)
        (λ n k g. ap (λ b. b || (size.extensible && nat_le (size.low + n) 16383)) (root n k))
        (λ n k g. ap (λ (m : ℕ). extension_fields p size.extensible false ++ number_fields p fields.length span m)
        (let u : n ≡ size.low + n - size.low = omega arith in u)
        ∙ count_fields_are p size (size.low + n) true (root n k))
        (λ n k. refl)
    go true h s e2 =
        let d = after_all (extension_fields p size.extensible true) c in
        let length_so = λ (n : ℕ). λ (r : read (extent (whole 0 16383 (Some size))) (answered_at pad 0 d) ≡ Ok n). whole_read 0 16383
        (Some size) (answered_at pad 0 d) n r in
        found_after (extension_fields p size.extensible true) Any _ (λ n. asked p pad 0 ∷ asked p (extent (whole 0 16383
        (Some size))) n ∷ []) _ K K c y (λ n. n) s
        (found_aligned p (extent (whole 0 16383 (Some size))) K d y e2)
        (λ n k g. let l : IsLength 0 16383 (Some size) n = length_so n g.1.0 in
        ap (λ b. b || (size.extensible && nat_le n 16383)) l.past ∙ ap (λ b. b && nat_le n 16383) (extensible_is size.extensible h)
        ∙ is_at_most n 16383 l.high)
        (λ n k g. let l : IsLength 0 16383 (Some size) n = length_so n g.1.0 in count_fields_are p size n false l.past)
        (λ n k. refl)
