-- The fields of strings and counts answer what is asked for them.
use Rattle.std.proofs.Common.{◌≡◌, ℕ, zero, suc, ◌+◌, ◌-◌, ◌*◌, ◌/◌, ◌<◌, ◌≤◌, Bool, true, false, cond, ◌&&◌, ◌||◌, ◌==◌, nat_lt, List, [], ◌∷◌, ◌++◌, length, map, take, drop, None, Some, Option, Ok, refl, sym, ap, ◌∙◌, arith}
use Rattle.std.specs.Prelude.{nat_le}
use Rattle.std.proofs.lemmas.List.{length-take, length-drop, take-append-drop}
use Rattle.asn1_syntax.specs.declared.types.definition.Size.{Size}
use Rattle.aper_defs.specs.declared.reason.Reason.{Reason}
use Rattle.aper_defs.specs.declared.reason.Reason.TheVariants as reasons
use Rattle.aper_defs.specs.Fields.{Path, Ask, Field, RunUnit, bit, octet, character, extent, pad, whole, part, asked, run as run_field}
use Rattle.aper_defs.specs.Fields as fields
use Rattle.aper_defs.specs.Bits.{part_units}
use Rattle.aper_defs.specs.Parts.{Content, of_bits, of_octets, of_characters, unit_fields, pad_limit, in_size, part_of_fields, next_part, part_fields, all_part_fields, sized_fields, string_fields, count_fields, extension_fields, number_fields}
use Rattle.aper_defs.specs.Membership.{is_count_of}
use Rattle.aper_defs.specs.Questions.{Prog, ask, ask_units, ask_characters, ask_parts, ask_all_parts, turn_limit, ask_sized, ask_string, ask_string_by, ask_count, ask_count_by, ask_extension, ask_number}
use Rattle.aper_defs.specs.Reading.{Cursor, read, read_within, passes, is_within, bit_limit, asked_width, answered_at, run}
use Rattle.proof_aper.proofs.answers.Standing.{Leads, StandAll, StandAll-append, after_all, after_all-append, answered, taken, both, asked_so, asks_on, by_test}
use Rattle.proof_aper.proofs.answers.NumberFacts.{by_cases, below, not_below, is_below, is_not_below, same, at_most, first_of_both, second_of_both}
use Rattle.proof_aper.proofs.answers.ForthNumbers.{aligned, forth_number, forth_extension}

characters : (p : Path) (cs : List ℕ) (K : List ℕ → Prog) (c : Cursor)
    → Leads (map (λ x. asked p character x) cs) (ask_characters p (length cs) K) (K cs) c
characters p [] K c s = refl
characters p (x ∷ cs) K c s =
    answered p character (λ y. ask_characters p (length cs) (λ ys. K (y ∷ ys))) c x s.0
    ∙ characters p cs (λ ys. K (x ∷ ys)) (answered_at character x c) s.1

pub forth_units : (p : Path) (content : Content) (units : List ℕ) (K : List ℕ → Prog) (c : Cursor)
    → Leads (unit_fields p content units) (ask_units p content (length units) K) (K units) c
forth_units p of_bits units K c s = taken p bit K c units s.0
forth_units p of_octets units K c s = taken p octet K c units s.0
forth_units p of_characters units K c s = characters p units K c s

-- so many units, told otherwise
units_of : (p : Path) (content : Content) (units : List ℕ) (n : ℕ) (K : List ℕ → Prog) (c : Cursor) → n ≡ length units
    → Leads (unit_fields p content units) (ask_units p content n K) (K units) c
units_of p content units n K c e = asked_so _ _ _ _ _ (ap (λ m. ask_units p content m K) e) (forth_units p content units K c)

-- a field that stands begins within the limit
limit_kept : (c : Cursor) (width : ℕ) → passes c width ≡ None → c.place ≤ bit_limit
limit_kept c width e = by_cases (nat_lt bit_limit (c.place + width))
    (λ b. cond (is_within (c.place + width) c.opens)
    (cond b (Some reasons.TooLong) (cond (nat_lt (8 * length c.octets) (c.place + width)) (Some reasons.Truncated) None))
    (Some reasons.Overrun) ≡ None → c.place ≤ bit_limit)
    (λ h g. absurd (too_long (is_within (c.place + width) c.opens) g)) (λ h g. omega (arith, not_below bit_limit (c.place + width) h)) e
  where
    too_long : (b : Bool) → cond b (Some reasons.TooLong) (Some reasons.Overrun) ≡ None → ⊥
    too_long true g = cc
    too_long false g = cc

pub read_limit : (question : Ask) (c : Cursor) (n : ℕ) → read question c ≡ Ok n → c.place ≤ bit_limit
unfolding read
read_limit question c n e = go (passes c (asked_width question c)) refl e
  where
    go : (r : Option Reason) → passes c (asked_width question c) ≡ r → read_within question c r ≡ Ok n → c.place ≤ bit_limit
    go None is h = limit_kept c (asked_width question c) is
    go (Some reason) is h = cc

-- the place after units
after_characters : (p : Path) (cs : List ℕ) (c : Cursor) → (after_all (map (λ x. asked p character x) cs) c).place ≡ c.place + 8 * length cs
after_characters p [] c = omega arith
after_characters p (x ∷ cs) c = omega (arith, after_characters p cs (answered_at character x c))

pub units_reach : (p : Path) (content : Content) (units : List ℕ) (c : Cursor)
    → c.place + length units ≤ (after_all (unit_fields p content units) c).place
units_reach p of_bits units c = omega arith
units_reach p of_octets units c = omega arith
units_reach p of_characters units c = omega (arith, after_characters p units c)

-- a part: its length, and its units
part_next : Content → Path → Option Size → ℕ → ℕ → (List ℕ → Prog) → ℕ → List ℕ → Prog
part_next content p outside tries before K n units =
    cond (nat_lt n part_units) (K units) (ask_parts p content outside tries (before + n) n (λ more. K (units ++ more)))

part_leads : (p : Path) (content : Content) (outside : Option Size) (tries before previous : ℕ) (units : List ℕ) (K : List ℕ → Prog)
    (c : Cursor)
    → Leads (part_of_fields p content outside before previous units) (ask_parts p content outside (suc tries) before previous K)
    (part_next content p outside tries before K (length units) units) c
unfolding ask_parts part_next
part_leads p content outside tries before previous units K c s =
    aligned p (extent (part before previous outside)) (length units)
    (λ n. ask_units p content n (λ us. cond (nat_lt n part_units) (K us)
    (ask_parts p content outside tries (before + n) n (λ more. K (us ++ more))))) c (s.0, (s.1.0, tt))
    ∙ forth_units p content units (λ us. cond (nat_lt (length units) part_units) (K us)
    (ask_parts p content outside tries (before + length units) (length units) (λ more. K (us ++ more)))) _ s.1.1

last_part : (p : Path) (content : Content) (outside : Option Size) (tries before previous : ℕ) (units : List ℕ) (K : List ℕ → Prog)
    (c : Cursor)
    → bit_limit < part_units * tries + c.place → length units < part_units
    → Leads (part_of_fields p content outside before previous units) (ask_parts p content outside tries before previous K) (K units) c
unfolding part_next
last_part p content outside zero before previous units K c room short s = absurd (omega (arith, read_limit pad c 0 s.0))
last_part p content outside (suc tries) before previous units K c room short s =
    asks_on (part_of_fields p content outside before previous units) _ _ _ _ (part_leads p content outside tries before previous units K c)
    (ap (λ b. cond b (K units) (ask_parts p content outside tries (before + length units) (length units) (λ more. K (units ++ more))))
    (is_below (length units) part_units short)) s

pub next_some : (n : ℕ) → part_units ≤ n → (part_units ≤ next_part n) × (next_part n ≤ n)
next_some n h = (omega arith, omega arith)

-- a part that isn't the last one
further_part : (p : Path) (content : Content) (outside : Option Size) (tries before previous : ℕ) (units : List ℕ) (count : ℕ) (K : List ℕ
    → Prog) (c : Cursor)
    → bit_limit < part_units * tries + c.place → part_units ≤ count → length units ≡ count
    → StandAll (part_of_fields p content outside before previous units) c
    → (more : ℕ) × (tries ≡ suc more) × (run (ask_parts p content outside tries before previous K) c
    ≡ run (ask_parts p content outside more (before + count) count (λ others. K (units ++ others)))
    (after_all (part_of_fields p content outside before previous units) c))
    × (bit_limit < part_units * more + (after_all (part_of_fields p content outside before previous units) c).place)
unfolding part_next
further_part p content outside zero before previous units count K c room some size s = absurd (omega (arith, read_limit pad c 0 s.0))
further_part p content outside (suc tries) before previous units count K c room some size s =
    let d : Cursor = answered_at (extent (part before previous outside)) (length units) (answered_at pad 0 c) in (
      tries,
      refl,
      part_leads p content outside tries before previous units K c s
          ∙ ap (λ b. run (cond b (K units) (ask_parts p content outside tries (before + length units) (length units)
          (λ more. K (units ++ more)))) (after_all (unit_fields p content units) d))
          (is_not_below (length units) part_units (omega (arith, size)))
          ∙ ap (λ (n : ℕ). run (ask_parts p content outside tries (before + n) n (λ more. K (units ++ more)))
          (after_all (unit_fields p content units) d)) size,
      omega (arith, units_reach p content units d, size),
    )

joined_again : (count : ℕ) (units : List ℕ) (K : List ℕ → Prog) → K (take count units ++ drop count units) ≡ K units
joined_again count units K = ap K (take-append-drop count units)

-- the fields of a part, and those after it, where the length isn't below that of a part
forth_further : (p : Path) (content : Content) (outside : Option Size) (tries before previous : ℕ) (units : List ℕ) (count : ℕ)
    (others : List Field) (K : List ℕ → Prog) (c : Cursor)
    → bit_limit < part_units * tries + c.place → part_units ≤ count → count ≤ length units
    → ((more : ℕ) (d : Cursor) → bit_limit < part_units * more + d.place
    → Leads others (ask_parts p content outside more (before + count) count (λ xs. K (take count units ++ xs)))
    (K (take count units ++ drop count units)) d)
    → Leads (part_of_fields p content outside before previous (take count units) ++ others)
    (ask_parts p content outside tries before previous K) (K units) c
forth_further p content outside tries before previous units count others K c room some fits rest s =
    let first = part_of_fields p content outside before previous (take count units) in
    let size : length (take count units) ≡ count = omega (arith, length-take count units, fits) in
    let parts = StandAll-append first others c s in
    let step = further_part p content outside tries before previous (take count units) count K c room some size parts.0 in
    step.2 ∙ rest step.0 (after_all first c) step.3 parts.1
    ∙ ap (run (K (take count units ++ drop count units))) (sym (after_all-append first others c))
    ∙ ap (λ P. run P (after_all (first ++ others) c)) (joined_again count units K)

pub forth_parts : (p : Path) (content : Content) (outside : Option Size) (turns tries before previous : ℕ) (units : List ℕ) (K : List ℕ
    → Prog) (c : Cursor)
    → bit_limit < part_units * tries + c.place → length units < part_units * (turns + 1)
    → Leads (part_fields p content outside turns before previous units) (ask_parts p content outside tries before previous K) (K units) c
unfolding part_fields
forth_parts p content outside zero tries before previous units K c room short =
    last_part p content outside tries before previous units K c room (omega arith)
forth_parts p content outside (suc turns) tries before previous units K c room short =
    let count = next_part (length units) in
    by_cases (nat_lt (length units) part_units)
    (λ b. Leads (cond b (part_of_fields p content outside before previous units)
    (part_of_fields p content outside before previous (take count units) ++ part_fields p content outside turns (before + count) count
    (drop count units)))
    (ask_parts p content outside tries before previous K) (K units) c)
    (λ h. last_part p content outside tries before previous units K c room (below (length units) part_units h))
    (λ h. let bounds = next_some (length units) (not_below (length units) part_units h) in
    forth_further p content outside tries before previous units count
    (part_fields p content outside turns (before + count) count (drop count units)) K c room bounds.0 bounds.1
    (λ more d room'. forth_parts p content outside turns more (before + count) count (drop count units)
    (λ xs. K (take count units ++ xs)) d room'
    (omega (arith, length-drop count units, bounds.0, bounds.1))))

all_parts : (p : Path) (content : Content) (outside : Option Size) (units : List ℕ) (K : List ℕ → Prog) (c : Cursor)
    → Leads (all_part_fields p content outside units) (ask_all_parts p content outside K) (K units) c
all_parts p content outside units K c =
    forth_parts p content outside (length units / part_units) turn_limit 0 (4 * part_units) units K c (omega arith) (omega arith)

-- a string in the root of its size
pub fixed_size : (size : Size) (n : ℕ) → in_size size n ≡ true → (size.low == size.high) ≡ true → size.low ≡ n
fixed_size size n h e =
    omega (
      arith,
      same size.low size.high e,
      at_most size.low n (first_of_both (nat_le size.low n) (nat_le n size.high) h),
      at_most n size.high (second_of_both (nat_le size.low n) (nat_le n size.high) h),
    )

pub from_low : (size : Size) (n : ℕ) → in_size size n ≡ true → (size.low + (n - size.low) ≡ n) × (n - size.low ≤ size.high - size.low)
from_low size n h =
    let low : size.low ≤ n = at_most size.low n (first_of_both (nat_le size.low n) (nat_le n size.high) h) in
    let high : n ≤ size.high = at_most n size.high (second_of_both (nat_le size.low n) (nat_le n size.high) h) in
    (omega arith, omega arith)

padded_units : (p : Path) (content : Content) (units : List ℕ) (n : ℕ) (K : List ℕ → Prog) (c : Cursor) → n ≡ length units
    → Leads (asked p pad 0 ∷ unit_fields p content units) (ask p pad (λ z. ask_units p content n K)) (K units) c
padded_units p content units n K c e s = answered p pad (λ z. ask_units p content n K) c 0 s.0
    ∙ units_of p content units n K (answered_at pad 0 c) e s.1

sized : (p : Path) (content : Content) (size : Size) (units : List ℕ) (K : List ℕ → Prog) (c : Cursor) → in_size size (length units) ≡ true
    → Leads (sized_fields p content size units) (ask_sized p content size K) (K units) c
sized p content size units K c h =
    by_cases (size.low == size.high)
    (λ b. Leads (cond b (cond (nat_lt (pad_limit content) size.low) (asked p pad 0 ∷ unit_fields p content units)
    (unit_fields p content units))
    (number_fields p fields.length (size.high - size.low) (length units - size.low) ++ asked p pad 0 ∷ unit_fields p content units))
    (cond b (cond (nat_lt (pad_limit content) size.low) (ask p pad (λ z. ask_units p content size.low K)) (ask_units p content size.low K))
    (ask_number p fields.length (size.high - size.low) (λ n. ask p pad (λ z. ask_units p content (size.low + n) K)))) (K units) c)
    (λ e. let is : size.low ≡ length units = fixed_size size (length units) h e in
    by_test (nat_lt (pad_limit content) size.low) _ _ _ _ (K units) c (padded_units p content units size.low K c is)
    (units_of p content units size.low K c is))
    (λ e. let facts = from_low size (length units) h in
    both (number_fields p fields.length (size.high - size.low) (length units - size.low)) (asked p pad 0 ∷ unit_fields p content units) _
    (ask p pad (λ z. ask_units p content (size.low + (length units - size.low)) K)) (K units) c
    (forth_number p fields.length (size.high - size.low) (length units - size.low)
    (λ n. ask p pad (λ z. ask_units p content (size.low + n) K)) c facts.1)
    (padded_units p content units (size.low + (length units - size.low)) K _ facts.0))

-- past the root the size is extensible
pub past_size : (b extensible other : Bool) → (b || (extensible && other)) ≡ true → b ≡ false → extensible ≡ true
past_size true extensible other h out = cc
past_size false true other h out = refl
past_size false false other h out = cc

pub either_extensible : (b extensible : Bool) → (b || extensible) ≡ true → b ≡ false → extensible ≡ true
either_extensible true extensible h out = cc
either_extensible false extensible h out = h

pub forth_string : (p : Path) (content : Content) (size : Option Size) (units : List ℕ) (K : List ℕ → Prog) (c : Cursor)
    → is_count_of None size (length units) ≡ true
    → Leads (string_fields p content size units) (ask_string p content size K) (K units) c
unfolding string_fields ask_string
forth_string p content None units K c h = all_parts p content None units K c
forth_string p content (Some size) units K c h =
    by_cases (in_size size (length units))
    (λ b. Leads (extension_fields p size.extensible (cond b false true) ++ cond b (sized_fields p content size units)
    (all_part_fields p content (Some size) units))
    (ask_extension p size.extensible (ask_string_by p content size K)) (K units) c)
    (λ root. both (extension_fields p size.extensible false) (sized_fields p content size units) _ _ (K units) c
    (forth_extension p size.extensible false (ask_string_by p content size K) c (λ e. refl))
    (sized p content size units K _ root))
    (λ out. both (extension_fields p size.extensible true) (all_part_fields p content (Some size) units) _ _ (K units) c
    (forth_extension p size.extensible true (ask_string_by p content size K) c (λ e. cc (either_extensible _ _ h out, e)))
    (all_parts p content (Some size) units K _))

pub forth_count : (p : Path) (size : Option Size) (n : ℕ) (K : ℕ → Prog) (c : Cursor) → is_count_of (Some 16383) size n ≡ true
    → Leads (count_fields p size n) (ask_count p size K) (K n) c
unfolding count_fields ask_count
forth_count p None n K c h = aligned p (extent (whole 0 16383 None)) n K c
forth_count p (Some size) n K c h =
    by_cases (in_size size n)
    (λ b. Leads (extension_fields p size.extensible (cond b false true)
    ++ cond b (number_fields p fields.length (size.high - size.low) (n - size.low))
    (asked p pad 0 ∷ asked p (extent (whole 0 16383 (Some size))) n ∷ []))
    (ask_extension p size.extensible (ask_count_by p size K)) (K n) c)
    (λ root. let facts = from_low size n root in
    both (extension_fields p size.extensible false) (number_fields p fields.length (size.high - size.low) (n - size.low)) _ _ (K n) c
    (forth_extension p size.extensible false (ask_count_by p size K) c (λ e. refl))
    (asks_on (number_fields p fields.length (size.high - size.low) (n - size.low)) _ _ _ _
    (forth_number p fields.length (size.high - size.low) (n - size.low) (λ m. K (size.low + m)) _ facts.1) (ap K facts.0)))
    (λ out. both (extension_fields p size.extensible true) (asked p pad 0 ∷ asked p (extent (whole 0 16383 (Some size))) n ∷ []) _ _ (K n) c
    (forth_extension p size.extensible true (ask_count_by p size K) c
    (λ e. cc (past_size (in_size size n) size.extensible (nat_le n 16383) h out, e)))
    (aligned p (extent (whole 0 16383 (Some size))) n K _))
