-- The fields of strings and counts answer what is asked for them.
use Rattle.std.proofs.Common.{◌≡◌, ℕ, zero, suc, ◌+◌, ◌-◌, ◌*◌, ◌/◌, ◌<◌, ◌≤◌, Bool, true, false, cond, ◌==◌, nat_lt, List, [], ◌∷◌, ◌++◌, length, map, take, drop, None, Some, Option, refl, ap, ◌∙◌, arith}
use Rattle.std.proofs.lemmas.List.{length-take, length-drop, take-append-drop}
use Rattle.asn1_syntax.specs.declared.types.definition.Size.{Size}
use Rattle.aper_defs.specs.Fields.{Path, Ask, Field, bit, octet, character, extent, pad, whole, part, asked}
use Rattle.aper_defs.specs.Fields as fields
use Rattle.aper_defs.specs.Bits.{part_units}
use Rattle.aper_defs.specs.Parts.{Content, of_bits, of_octets, of_characters, unit_fields, pad_limit, in_size, part_of_fields, next_part, part_fields, all_part_fields, sized_fields, extension_fields, number_fields}
use Rattle.aper_defs.specs.Questions.{Prog, ask, ask_units, ask_characters, ask_parts, ask_all_parts, turn_limit, ask_sized, ask_string, ask_string_by, ask_count, ask_count_by, ask_number}
use Rattle.aper_defs.specs.Reading.{Cursor, bit_limit, answered_at}
use Rattle.proof_aper.proofs.answers.NumberFacts.{by_cases, below, not_below, is_below, is_not_below}
use Rattle.proof_aper.proofs.answers.ForthStrings.{next_some, fixed_size, from_low}
use Rattle.aper_defs.specs.loose_defs.Forms.{string_form, HasStringForm, count_form, HasCountForm}
use Rattle.aper_defs.specs.loose_defs.Wrong.{place_after}
use Rattle.proof_aper.proofs.loose.Following.{Follow, both, nothing, asked_so, asks_on, then_on, taken, by_test}
use Rattle.proof_aper.proofs.loose.FollowNumbers.{aligned, aligned_on, follow_number, follow_extension}

characters : (p : Path) (cs : List ℕ) (K : List ℕ → Prog) (c : Cursor)
    → Follow (map (λ x. asked p character x) cs) (ask_characters p (length cs) K) (K cs) c
characters p [] K c = nothing (K []) (K []) c refl
characters p (x ∷ cs) K c =
    then_on p character x _ (λ y. ask_characters p (length cs) (λ ys. K (y ∷ ys))) _ c (characters p cs (λ ys. K (x ∷ ys)) _)

pub follow_units : (p : Path) (content : Content) (units : List ℕ) (K : List ℕ → Prog) (c : Cursor)
    → Follow (unit_fields p content units) (ask_units p content (length units) K) (K units) c
follow_units p of_bits units K c = taken p bit units K c
follow_units p of_octets units K c = taken p octet units K c
follow_units p of_characters units K c = characters p units K c

-- so many units, told otherwise
units_of : (p : Path) (content : Content) (units : List ℕ) (n : ℕ) (K : List ℕ → Prog) (c : Cursor) → n ≡ length units
    → Follow (unit_fields p content units) (ask_units p content n K) (K units) c
units_of p content units n K c e = asked_so _ _ _ _ _ (ap (λ m. ask_units p content m K) e) (follow_units p content units K c)

-- the place after units
after_characters : (p : Path) (cs : List ℕ) (c : Cursor)
    → (place_after (map (λ x. asked p character x) cs) c).place ≡ c.place + 8 * length cs
after_characters p [] c = omega arith
after_characters p (x ∷ cs) c = omega (arith, after_characters p cs (answered_at character x c))

units_reach : (p : Path) (content : Content) (units : List ℕ) (c : Cursor)
    → c.place + length units ≤ (place_after (unit_fields p content units) c).place
units_reach p of_bits units c = omega arith
units_reach p of_octets units c = omega arith
units_reach p of_characters units c = omega (arith, after_characters p units c)

-- a part: its length, and its units
part_next : Content → Path → Option Size → ℕ → ℕ → (List ℕ → Prog) → ℕ → List ℕ → Prog
part_next content p outside tries before K n units =
    cond (nat_lt n part_units) (K units) (ask_parts p content outside tries (before + n) n (λ more. K (units ++ more)))

part_leads : (p : Path) (content : Content) (outside : Option Size) (tries before previous : ℕ) (units : List ℕ) (K : List ℕ → Prog)
    (c : Cursor)
    → Follow (part_of_fields p content outside before previous units) (ask_parts p content outside (suc tries) before previous K)
    (part_next content p outside tries before K (length units) units) c
unfolding ask_parts part_next
part_leads p content outside tries before previous units K c =
    aligned_on p (extent (part before previous outside)) (length units) _
    (λ n. ask_units p content n (λ us. cond (nat_lt n part_units) (K us)
    (ask_parts p content outside tries (before + n) n (λ more. K (us ++ more))))) _ c
    (follow_units p content units (λ us. cond (nat_lt (length units) part_units) (K us)
    (ask_parts p content outside tries (before + length units) (length units) (λ more. K (us ++ more)))) _)

-- past the limit of an encoding a part is free
past : (p : Path) (content : Content) (outside : Option Size) (before previous : ℕ) (units : List ℕ) (others : List Field) (P Q : Prog)
    (c : Cursor)
    → bit_limit < c.place → Follow (part_of_fields p content outside before previous units ++ others) P Q c
unfolding Follow
past p content outside before previous units others P Q c far = λ here. absurd (omega (arith, far, here))

last_part : (p : Path) (content : Content) (outside : Option Size) (tries before previous : ℕ) (units : List ℕ) (K : List ℕ → Prog)
    (c : Cursor)
    → bit_limit < part_units * tries + c.place → length units < part_units
    → Follow (part_of_fields p content outside before previous units) (ask_parts p content outside tries before previous K) (K units) c
unfolding part_next Follow
last_part p content outside zero before previous units K c room short = λ here. absurd (omega (arith, room, here))
last_part p content outside (suc tries) before previous units K c room short =
    asks_on (part_of_fields p content outside before previous units) _ _ _ _ (part_leads p content outside tries before previous units K c)
    (ap (λ b. cond b (K units) (ask_parts p content outside tries (before + length units) (length units) (λ more. K (units ++ more))))
    (is_below (length units) part_units short))

-- what is asked after a part that isn't the last one
part_on : (p : Path) (content : Content) (outside : Option Size) (tries before : ℕ) (units : List ℕ) (count : ℕ) (K : List ℕ → Prog)
    → part_units ≤ count → length units ≡ count
    → part_next content p outside tries before K (length units) units
    ≡ ask_parts p content outside tries (before + count) count (λ others. K (units ++ others))
unfolding part_next
part_on p content outside tries before units count K some size =
    ap (λ b. cond b (K units) (ask_parts p content outside tries (before + length units) (length units) (λ more. K (units ++ more))))
    (is_not_below (length units) part_units (omega (arith, size, some)))
    ∙ ap (λ (n : ℕ). ask_parts p content outside tries (before + n) n (λ more. K (units ++ more))) size

-- the fields of a part, and those after it, where the length isn't below that of a part
further : (p : Path) (content : Content) (outside : Option Size) (tries before previous : ℕ) (units : List ℕ) (count : ℕ)
    (others : List Field) (K : List ℕ → Prog) (c : Cursor)
    → bit_limit < part_units * tries + c.place → part_units ≤ count → count ≤ length units
    → ((more : ℕ) (d : Cursor) → bit_limit < part_units * more + d.place
    → Follow others (ask_parts p content outside more (before + count) count (λ xs. K (take count units ++ xs)))
    (K (take count units ++ drop count units)) d)
    → Follow (part_of_fields p content outside before previous (take count units) ++ others)
    (ask_parts p content outside tries before previous K) (K units) c
further p content outside zero before previous units count others K c room some fits rest =
    past p content outside before previous (take count units) others _ _ c (omega (arith, room))
further p content outside (suc tries) before previous units count others K c room some fits rest =
    let first = part_of_fields p content outside before previous (take count units) in
    let size : length (take count units) ≡ count = omega (arith, length-take count units, fits) in
    let d : Cursor = answered_at (extent (part before previous outside)) (length (take count units)) (answered_at pad 0 c) in
    both first others _ _ (K units) c
    (asks_on first _ _ _ _ (part_leads p content outside tries before previous (take count units) K c)
    (part_on p content outside tries before (take count units) count K some size))
    (asks_on others _ _ _ _ (rest tries (place_after first c)
    (omega (arith, units_reach p content (take count units) d, size, room, some)))
    (ap K (take-append-drop count units)))

follow_parts : (p : Path) (content : Content) (outside : Option Size) (turns tries before previous : ℕ) (units : List ℕ) (K : List ℕ
    → Prog) (c : Cursor)
    → bit_limit < part_units * tries + c.place → length units < part_units * (turns + 1)
    → Follow (part_fields p content outside turns before previous units) (ask_parts p content outside tries before previous K) (K units) c
unfolding part_fields
follow_parts p content outside zero tries before previous units K c room short =
    last_part p content outside tries before previous units K c room (omega arith)
follow_parts p content outside (suc turns) tries before previous units K c room short =
    let count = next_part (length units) in
    by_cases (nat_lt (length units) part_units)
    (λ b. Follow (cond b (part_of_fields p content outside before previous units)
    (part_of_fields p content outside before previous (take count units) ++ part_fields p content outside turns (before + count) count
    (drop count units)))
    (ask_parts p content outside tries before previous K) (K units) c)
    (λ h. last_part p content outside tries before previous units K c room (below (length units) part_units h))
    (λ h. let bounds = next_some (length units) (not_below (length units) part_units h) in
    further p content outside tries before previous units count
    (part_fields p content outside turns (before + count) count (drop count units)) K c room bounds.0 bounds.1
    (λ more d room'. follow_parts p content outside turns more (before + count) count (drop count units)
    (λ xs. K (take count units ++ xs)) d room'
    (omega (arith, length-drop count units, bounds.0, bounds.1))))

all_parts : (p : Path) (content : Content) (outside : Option Size) (units : List ℕ) (K : List ℕ → Prog) (c : Cursor)
    → Follow (all_part_fields p content outside units) (ask_all_parts p content outside K) (K units) c
all_parts p content outside units K c =
    follow_parts p content outside (length units / part_units) turn_limit 0 (4 * part_units) units K c (omega arith) (omega arith)

padded_units : (p : Path) (content : Content) (units : List ℕ) (n : ℕ) (K : List ℕ → Prog) (c : Cursor) → n ≡ length units
    → Follow (asked p pad 0 ∷ unit_fields p content units) (ask p pad (λ z. ask_units p content n K)) (K units) c
padded_units p content units n K c e =
    then_on p pad 0 _ (λ z. ask_units p content n K) _ c (units_of p content units n K _ e)

sized : (p : Path) (content : Content) (size : Size) (units : List ℕ) (K : List ℕ → Prog) (c : Cursor) → in_size size (length units) ≡ true
    → Follow (sized_fields p content size units) (ask_sized p content size K) (K units) c
sized p content size units K c h =
    by_cases (size.low == size.high)
    (λ b. Follow (cond b (cond (nat_lt (pad_limit content) size.low) (asked p pad 0 ∷ unit_fields p content units)
    (unit_fields p content units))
    (number_fields p fields.length (size.high - size.low) (length units - size.low) ++ asked p pad 0 ∷ unit_fields p content units))
    (cond b (cond (nat_lt (pad_limit content) size.low) (ask p pad (λ z. ask_units p content size.low K)) (ask_units p content size.low K))
    (ask_number p fields.length (size.high - size.low) (λ n. ask p pad (λ z. ask_units p content (size.low + n) K)))) (K units) c)
    (λ e. let is : size.low ≡ length units = fixed_size size (length units) h e in
    by_test (nat_lt (pad_limit content) size.low) _ _ _ _ (K units) c (padded_units p content units size.low K c is)
    (units_of p content units size.low K c is))
    (λ e. let facts = from_low size (length units) h in
    both (number_fields p fields.length (size.high - size.low) (length units - size.low)) (asked p pad 0 ∷ unit_fields p content units) _
    (ask p pad (λ z. ask_units p content (size.low + (length units - size.low)) K)) (K units) c
    (follow_number p fields.length (size.high - size.low) (length units - size.low)
    (λ n. ask p pad (λ z. ask_units p content (size.low + n) K)) c facts.1)
    (padded_units p content units (size.low + (length units - size.low)) K _ facts.0))

pub follow_string : (p : Path) (content : Content) (size : Option Size) (outside : Bool) (units : List ℕ) (K : List ℕ → Prog) (c : Cursor)
    → HasStringForm size outside (length units)
    → Follow (string_form p content size outside units) (ask_string p content size K) (K units) c
unfolding ask_string
follow_string p content None outside units K c h = all_parts p content None units K c
follow_string p content (Some size) false units K c h =
    both (extension_fields p size.extensible false) (sized_fields p content size units) _ _ (K units) c
    (follow_extension p size.extensible false (ask_string_by p content size K) c (λ e. refl))
    (sized p content size units K _ h)
follow_string p content (Some size) true units K c h =
    both (extension_fields p size.extensible true) (all_part_fields p content (Some size) units) _ _ (K units) c
    (follow_extension p size.extensible true (ask_string_by p content size K) c (λ e. cc (h, e)))
    (all_parts p content (Some size) units K _)

pub follow_count : (p : Path) (size : Option Size) (outside : Bool) (n : ℕ) (K : ℕ → Prog) (c : Cursor) → HasCountForm size outside n
    → Follow (count_form p size outside n) (ask_count p size K) (K n) c
unfolding ask_count
follow_count p None outside n K c h = aligned p (extent (whole 0 16383 None)) n K c
follow_count p (Some size) false n K c h =
    let facts = from_low size n h in
    both (extension_fields p size.extensible false) (number_fields p fields.length (size.high - size.low) (n - size.low)) _ _ (K n) c
    (follow_extension p size.extensible false (ask_count_by p size K) c (λ e. refl))
    (asks_on (number_fields p fields.length (size.high - size.low) (n - size.low)) _ _ _ _
    (follow_number p fields.length (size.high - size.low) (n - size.low) (λ m. K (size.low + m)) _ facts.1) (ap K facts.0))
follow_count p (Some size) true n K c h =
    both (extension_fields p size.extensible true) (asked p pad 0 ∷ asked p (extent (whole 0 16383 (Some size))) n ∷ []) _ _ (K n) c
    (follow_extension p size.extensible true (ask_count_by p size K) c (λ e. cc (h.0, e)))
    (aligned p (extent (whole 0 16383 (Some size))) n K _)
