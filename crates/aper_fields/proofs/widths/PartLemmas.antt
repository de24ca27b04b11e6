-- How long strings are.
use Rattle.std.proofs.Common.{◌≡◌, ℕ, zero, suc, ◌+◌, ◌-◌, ◌*◌, ◌/◌, ◌%◌, ◌<◌, ◌≤◌, cond, nat_lt, min, List, [], ◌∷◌, ◌++◌, length, take, drop, map, Option, refl, sym, ap, ◌∙◌, arith}
use Rattle.std.proofs.lemmas.List.{length-drop, length-take-le}
use Rattle.asn1_syntax.specs.declared.types.definition.Size.{Size}
use Rattle.bits_core.specs.Bits.{pad_of}
use Rattle.aper_defs.specs.Fields.{Path, asked, character}
use Rattle.aper_defs.specs.Bits.{part_units, extent_width}
use Rattle.aper_defs.specs.Parts.{Content, of_bits, of_octets, of_characters, unit_fields, next_part, part_of_fields, part_fields, all_part_fields}
use Rattle.proof_aper.proofs.answers.NumberFacts.{by_cases, below, not_below, is_not_below}
use Rattle.proof_aper.proofs.places.Bits.{total, total-append}
use Rattle.aper_fields.specs.widths.Ends.{passed, Ends}
use Rattle.aper_fields.specs.widths.Widths.{units_width, lengths_width}
use Rattle.aper_fields.proofs.widths.EndLemmas.{ends_wide, passed_twice}

characters_total : (p : Path) (place : ℕ) (cs : List ℕ) → total place (map (λ c. asked p character c) cs) ≡ 8 * length cs
characters_total p place [] = refl
characters_total p place (c ∷ cs) = omega (arith, characters_total p (place + 8) cs)

pub units_total : (p : Path) (content : Content) (place : ℕ) (units : List ℕ)
    → total place (unit_fields p content units) ≡ units_width content (length units)
units_total p of_bits place units = omega arith
units_total p of_octets place units = omega arith
units_total p of_characters place units = characters_total p place units

part_total : (p : Path) (content : Content) (outside : Option Size) (before previous place : ℕ) (units : List ℕ)
    → total place (part_of_fields p content outside before previous units)
    ≡ pad_of place + (extent_width (length units) + units_width content (length units))
part_total p content outside before previous place units =
    ap (λ (n : ℕ). pad_of place + (extent_width (length units) + n))
    (units_total p content (place + pad_of place + extent_width (length units)) units)

-- ---- numbers of parts
whole_width : (j : ℕ) → 1 ≤ j → extent_width (part_units * j) ≡ 8
whole_width j some =
    ap (λ b. cond b 8 (cond (nat_lt (part_units * j) part_units) 16 8)) (is_not_below (part_units * j) 128 (omega (arith, some)))
    ∙ ap (λ b. cond b 16 8) (is_not_below (part_units * j) part_units (omega (arith, some)))

fewer_parts : (q : ℕ) → 1 ≤ q → (q + 3) / 4 ≡ 1 + (q - min 4 q + 3) / 4
fewer_parts q some = omega (arith, some)

left_whole : (n : ℕ) → (n - part_units * min 4 (n / part_units)) / part_units ≡ n / part_units - min 4 (n / part_units)
left_whole n = omega arith

left_rest : (n : ℕ) → (n - part_units * min 4 (n / part_units)) % part_units ≡ n % part_units
left_rest n = omega arith

pub one_more : (n : ℕ) → part_units ≤ n → lengths_width n ≡ 8 + lengths_width (n - next_part n)
one_more n some =
    let q = n / part_units in
    let positive : 1 ≤ q = omega (arith, some) in
    ap (λ (w : ℕ). 8 * ((q + 3) / 4) + w) (ap extent_width (sym (left_rest n)))
    ∙ ap (λ (k : ℕ). 8 * k + extent_width ((n - next_part n) % part_units)) (fewer_parts q positive
    ∙ ap (λ (k : ℕ). 1 + (k + 3) / 4) (sym (left_whole n)))
    ∙ arranged ((((n - next_part n) / part_units) + 3) / 4) (extent_width ((n - next_part n) % part_units))
  where
    arranged : (a b : ℕ) → 8 * (1 + a) + b ≡ 8 + (8 * a + b)
    arranged a b = omega arith

none_whole : (n : ℕ) → n < part_units → lengths_width n ≡ extent_width n
none_whole n few =
    let quotient : n / part_units ≡ 0 = omega (arith, few) in
    let rest : n % part_units ≡ n = omega (arith, few) in
    ap (λ (q : ℕ). 8 * ((q + 3) / 4) + extent_width (n % part_units)) quotient
    ∙ no_octets (extent_width (n % part_units)) ∙ ap (λ (m : ℕ). extent_width m) rest
  where
    no_octets : (w : ℕ) → 8 * ((0 + 3) / 4) + w ≡ w
    no_octets w = omega arith

units_split : (content : Content) (n k : ℕ) → k ≤ n → units_width content k + units_width content (n - k) ≡ units_width content n
units_split of_bits n k h = omega (arith, h)
units_split of_octets n k h = omega (arith, h)
units_split of_characters n k h = omega (arith, h)

units_whole : (content : Content) (j : ℕ) → units_width content (part_units * j) % 8 ≡ 0
units_whole of_bits j = omega arith
units_whole of_octets j = omega arith
units_whole of_characters j = omega arith

-- ---- all parts
last_part : (p : Path) (content : Content) (outside : Option Size) (before previous place : ℕ) (units : List ℕ) → length units < part_units
    → total place (part_of_fields p content outside before previous units)
    ≡ pad_of place + (lengths_width (length units) + units_width content (length units))
last_part p content outside before previous place units few =
    part_total p content outside before previous place units
    ∙ ap (λ (w : ℕ). pad_of place + (w + units_width content (length units))) (sym (none_whole (length units) few))

joined : (place units more lengths all : ℕ) → (place + (pad_of place + (8 + units))) % 8 ≡ 0
    → more ≡ pad_of (place + (pad_of place + (8 + units))) + (lengths + all)
    → pad_of place + (8 + units) + more ≡ pad_of place + (8 + lengths + (units + all))
joined place units more lengths all whole is = omega (arith, whole, is)

aligned : (place units : ℕ) → units % 8 ≡ 0 → (place + (pad_of place + (8 + units))) % 8 ≡ 0
aligned place units h = omega (arith, h)

pub parts_total : (p : Path) (content : Content) (outside : Option Size) (turns before previous place : ℕ) (units : List ℕ)
    → length units / part_units ≤ turns
    → total place (part_fields p content outside turns before previous units)
    ≡ pad_of place + (lengths_width (length units) + units_width content (length units))
unfolding part_fields
parts_total p content outside zero before previous place units enough =
    last_part p content outside before previous place units (omega (arith, enough))
parts_total p content outside (suc turns) before previous place units enough =
    let n = length units in
    let k = next_part n in
    let j = min 4 (n / part_units) in
    let here = part_of_fields p content outside before previous units in
    let front = part_of_fields p content outside before previous (take k units) in
    let others = part_fields p content outside turns (before + k) k (drop k units) in
    by_cases (nat_lt n part_units)
    (λ b. total place (cond b here (front ++ others)) ≡ pad_of place + (lengths_width n + units_width content n))
    (λ e. last_part p content outside before previous place units (below n part_units e))
    (λ e.
    let many : part_units ≤ n = not_below n part_units e in
    let size : length (take k units) ≡ k = length-take-le k units (omega (arith, many)) in
    let left : length (drop k units) ≡ n - k = length-drop k units in
    let first : total place front ≡ pad_of place + (8 + units_width content k) =
    part_total p content outside before previous place (take k units)
    ∙ ap (λ (m : ℕ). pad_of place + (extent_width m + units_width content m)) size
    ∙ ap (λ (w : ℕ). pad_of place + (w + units_width content k)) (whole_width j (omega (arith, many))) in
    let after = place + (pad_of place + (8 + units_width content k)) in
    let more : total after others ≡ pad_of after + (lengths_width (n - k) + units_width content (n - k)) =
    parts_total p content outside turns (before + k) k after (drop k units) (omega (arith, left, many, enough))
    ∙ ap (λ (m : ℕ). pad_of after + (lengths_width m + units_width content m)) left in
    total-append place front others
    ∙ ap (λ (m : ℕ). m + total (place + m) others) first
    ∙ joined place (units_width content k) (total after others) (lengths_width (n - k)) (units_width content (n - k))
    (aligned place (units_width content k) (units_whole content j)) more
    ∙ ap (λ (m : ℕ). pad_of place + (m + (units_width content k + units_width content (n - k)))) (sym (one_more n many))
    ∙ ap (λ (m : ℕ). pad_of place + (lengths_width n + m)) (units_split content n k (omega arith)))

pub parts_end : (place padded new : ℕ) (content : Content) (outside : Option Size) (units : List ℕ)
    → padded ≡ passed place (pad_of place)
    → new ≡ passed padded (lengths_width (length units) + units_width content (length units))
    → Ends place new (λ p. all_part_fields p content outside units)
parts_end place padded new content outside units first second p rest =
    let n = length units in
    let width = lengths_width n + units_width content n in
    ends_wide place (pad_of place + width) new (all_part_fields p content outside units) rest
    (parts_total p content outside (n / part_units) 0 (4 * part_units) place units (omega arith))
    (second ∙ ap (λ (m : ℕ). passed m width) first ∙ sym (passed_twice place (pad_of place) width))

pub units_end : (place new : ℕ) (content : Content) (units : List ℕ) → new ≡ passed place (units_width content (length units))
    → Ends place new (λ p. unit_fields p content units)
units_end place new content units is p rest =
    ends_wide place (units_width content (length units)) new (unit_fields p content units) rest (units_total p content place units) is
