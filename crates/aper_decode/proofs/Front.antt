-- What octets give doesn't depend on those past the limit.
use Rattle.std.proofs.Common.{◌≡◌, ℕ, zero, suc, ◌+◌, ◌*◌, ◌==◌, ◌<◌, ◌≤◌, cond, List, [], ◌∷◌, ◌++◌, length, take, drop, replicate, Bool, true, false, Option, Some, None, Result, Ok, Err, refl, sym, ap, subst, ◌∙◌, arith, length-append, length-drop}
use Rattle.std.specs.Prelude.{nat_lt}
use Rattle.std.proofs.Math.Nat.{mul-suc}
use Rattle.std.proofs.lemmas.Bool.Decides.{nat_tests}
use Rattle.std.proofs.lemmas.List.{take-append-le, drop-append-le, take-append-drop, length-take-le}
use Rattle.std.proofs.lemmas.Grind.{flat_map-append}
use Rattle.bits_core.specs.Bits.{bits_of, number_of, numbers_at, octet_bits}
use Rattle.bits_core.proofs.BitLemmas.{length-octet_bits}
use Rattle.aper_defs.specs.declared.reason.Reason.{Reason}
use Rattle.aper_defs.specs.declared.reason.Reason.TheVariants as reasons
use Rattle.aper_defs.specs.Trees.{Tree}
use Rattle.aper_defs.specs.Values as seen
use Rattle.aper_defs.specs.Fields.{Path, Ask, RunUnit, flag, constrained, digits, signed, small, extent, addition_bits, character, ie_count, ie_id, pad, opening, closing, end}
use Rattle.aper_defs.specs.Bits.{width_at, unit_width}
use Rattle.aper_defs.specs.Questions.{Prog, done, ask, never}
use Rattle.aper_defs.specs.Questions as questions
use Rattle.aper_defs.specs.Asking.{asks_whole}
use Rattle.aper_defs.specs.Reading.{Opened, Cursor, Fault, at_first, bits_at, told_width, asked_width, bit_limit, is_within, passes, judged, answer_of, answered, read, read_within, read_units, units_within, opens_after, answered_at, moved_by, goes_on, run, only, decoded}
use Rattle.proof_aper.proofs.answers.NumberFacts.{not_below, is_not_below}
use Rattle.proof_aper.proofs.values.Found.{Answered, answer_read, taken_size, taken_limit}
use Rattle.proof_aper.proofs.values.FoundBits.{written}
use Rattle.aper_values.specs.declared.value.Value.{Value}
use Rattle.aper_decode.specs.declared.error.DecodeError.{DecodeError}
use Rattle.aper_decode.specs.declared.error.DecodeError.TheVariants as errors
use Rattle.aper_decode.specs.Decoding.{Decodes}

-- A length determinant shows its width in its first two bits.
told_two : (bits : List Bool) → told_width bits ≡ told_width (take 2 bits)
told_two [] = refl
told_two (true ∷ []) = refl
told_two (false ∷ []) = refl
told_two (true ∷ true ∷ bits) = refl
told_two (true ∷ false ∷ bits) = refl
told_two (false ∷ true ∷ bits) = refl
told_two (false ∷ false ∷ bits) = refl

-- so many numbers of a width stand in the first bits
numbers_front : (width count : ℕ) (bits more : List Bool) → width * count ≤ length bits
    → numbers_at (replicate count width) (bits ++ more) ≡ numbers_at (replicate count width) bits
numbers_front width zero bits more h = refl
numbers_front width (suc count) bits more h =
    let sum : width * suc count ≡ width * count + width = mul-suc width count in
    let first : width ≤ length bits = omega (arith, sum, h) in
    let others : width * count ≤ length (drop width bits) = omega (arith, sum, h, length-drop width bits) in
    ap (λ (xs : List Bool). number_of xs ∷ numbers_at (replicate count width) (drop width (bits ++ more))) (take-append-le width bits more first)
    ∙ ap (λ (xs : List Bool). number_of (take width bits) ∷ numbers_at (replicate count width) xs) (drop-append-le width bits more first)
    ∙ ap (λ (ns : List ℕ). number_of (take width bits) ∷ ns) (numbers_front width count (drop width bits) more others)

other_place : (a b : ℕ) → a < b → (a == b) ≡ false
other_place a b h = grind (arith, nat_tests)

-- the octets up to the limit, and those after them
module _ (A B : List ℕ) (long : bit_limit + 8 ≤ 8 * length A) where
  pub near : ℕ → List Opened → Cursor
  near place opens = record { octets = A; place = place; opens = opens }

  pub far : ℕ → List Opened → Cursor
  far place opens = record { octets = A ++ B; place = place; opens = opens }

  longer : bit_limit + 8 ≤ 8 * length (A ++ B)
  longer = omega (arith, long, length-append A B)

  far_bits : (place : ℕ) (opens : List Opened) → place ≤ bit_limit → bits_at (far place opens) ≡ bits_at (near place opens) ++ octet_bits B
  unfolding near far
  far_bits place opens h =
      let within : place ≤ length (octet_bits A) = omega (arith, length-octet_bits A, long, h) in
      ap (drop place) (flat_map-append (bits_of 8) A B) ∙ drop-append-le place (octet_bits A) (octet_bits B) within

  near_size : (place : ℕ) (opens : List Opened) → place ≤ bit_limit → bit_limit + 8 ≤ place + length (bits_at (near place opens))
  unfolding near
  near_size place opens h = omega (arith, length-drop place (octet_bits A), length-octet_bits A, long, h)

  bits_front : (place k : ℕ) (opens : List Opened) → place ≤ bit_limit → place + k ≤ bit_limit + 8
      → take k (bits_at (far place opens)) ≡ take k (bits_at (near place opens))
  bits_front place k opens h fits =
      ap (take k) (far_bits place opens h)
      ∙ take-append-le k (bits_at (near place opens)) (octet_bits B) (omega (arith, near_size place opens h, fits))

  told_front : (place : ℕ) (opens : List Opened) → place ≤ bit_limit
      → told_width (bits_at (far place opens)) ≡ told_width (bits_at (near place opens))
  told_front place opens h =
      told_two (bits_at (far place opens)) ∙ ap told_width (bits_front place 2 opens h (omega (arith, h)))
      ∙ sym (told_two (bits_at (near place opens)))

  passes_front : (place width : ℕ) (opens : List Opened) → passes (far place opens) width ≡ passes (near place opens) width
  unfolding near far
  passes_front place width opens =
      ap (λ x. cond (is_within (place + width) opens) x (Some reasons.Overrun)) (by_limit (nat_lt bit_limit (place + width)) refl)
    where
      by_limit : (b : Bool) → nat_lt bit_limit (place + width) ≡ b
          → cond b (Some reasons.TooLong) (cond (nat_lt (8 * length (A ++ B)) (place + width)) (Some reasons.Truncated) None)
          ≡ cond b (Some reasons.TooLong) (cond (nat_lt (8 * length A) (place + width)) (Some reasons.Truncated) None)
      by_limit true e = refl
      by_limit false e =
          let short : place + width ≤ bit_limit = not_below bit_limit (place + width) e in
          ap (λ t. cond t (Some reasons.Truncated) None)
          (is_not_below (8 * length (A ++ B)) (place + width) (omega (arith, short, longer))
          ∙ sym (is_not_below (8 * length A) (place + width) (omega (arith, short, long))))

  width_front : (q : Ask) (place : ℕ) (opens : List Opened) → place ≤ bit_limit
      → asked_width q (far place opens) ≡ asked_width q (near place opens)
  unfolding near far
  width_front (extent bounds) place opens h = told_front place opens h
  width_front opening place opens h = told_front place opens h
  width_front flag place opens h = refl
  width_front (constrained role width most) place opens h = refl
  width_front (digits count most) place opens h = refl
  width_front (signed count low high) place opens h = refl
  width_front (small role) place opens h = refl
  width_front (addition_bits count) place opens h = refl
  width_front character place opens h = refl
  width_front (ie_count least) place opens h = refl
  width_front (ie_id known left after) place opens h = refl
  width_front pad place opens h = refl
  width_front closing place opens h = refl
  width_front end place opens h = refl

  judged_front : (q : Ask) (place : ℕ) (opens : List Opened) (m : ℕ) → judged q (far place opens) m ≡ judged q (near place opens) m
  unfolding near far
  judged_front (extent bounds) place opens m = refl
  judged_front opening place opens m = refl
  judged_front flag place opens m = refl
  judged_front (constrained role width most) place opens m = refl
  judged_front (digits count most) place opens m = refl
  judged_front (signed count low high) place opens m = refl
  judged_front (small role) place opens m = refl
  judged_front (addition_bits count) place opens m = refl
  judged_front character place opens m = refl
  judged_front (ie_count least) place opens m = refl
  judged_front (ie_id known left after) place opens m = refl
  judged_front pad place opens m = refl
  judged_front closing place opens m = refl
  judged_front end place opens m = refl

  answer_front : (q : Ask) (place : ℕ) (opens : List Opened) (m : ℕ) → answer_of q (far place opens) m ≡ answer_of q (near place opens) m
  unfolding near far
  answer_front (extent bounds) place opens m = refl
  answer_front opening place opens m = refl
  answer_front flag place opens m = refl
  answer_front (constrained role width most) place opens m = refl
  answer_front (digits count most) place opens m = refl
  answer_front (signed count low high) place opens m = refl
  answer_front (small role) place opens m = refl
  answer_front (addition_bits count) place opens m = refl
  answer_front character place opens m = refl
  answer_front (ie_count least) place opens m = refl
  answer_front (ie_id known left after) place opens m = refl
  answer_front pad place opens m = refl
  answer_front closing place opens m = refl
  answer_front end place opens m = refl

  answered_front : (q : Ask) (place : ℕ) (opens : List Opened) (m : ℕ) (r : Option Reason)
      → answered q (far place opens) m r ≡ answered q (near place opens) m r
  answered_front q place opens m None = ap Ok (answer_front q place opens m)
  answered_front q place opens m (Some reason) = refl

  read_room : (q : Ask) (place : ℕ) (opens : List Opened) (r : Option Reason) → place ≤ bit_limit
      → passes (near place opens) (asked_width q (near place opens)) ≡ r
      → read_within q (far place opens) r ≡ read_within q (near place opens) r
  unfolding near far
  read_room q place opens (Some reason) h e = refl
  read_room q place opens None h e =
      let c = far place opens in
      let d = near place opens in
      let w : ℕ = asked_width q d in
      let m : ℕ = number_of (take w (bits_at d)) in
      let fits : place + w ≤ bit_limit = taken_limit d w e in
      let same : number_of (take (asked_width q c) (bits_at c)) ≡ m =
      ap (λ (k : ℕ). number_of (take k (bits_at c))) (width_front q place opens h)
      ∙ ap number_of (bits_front place w opens h (omega (arith, fits))) in
      ap (λ (x : ℕ). answered q c x (judged q c x)) same
      ∙ ap (answered q c m) (judged_front q place opens m) ∙ answered_front q place opens m (judged q d m)

  read_front : (q : Ask) (place : ℕ) (opens : List Opened) → place ≤ bit_limit → read q (far place opens) ≡ read q (near place opens)
  unfolding read
  read_front q place opens h =
      ap (read_within q (far place opens))
      (ap (passes (far place opens)) (width_front q place opens h) ∙ passes_front place (asked_width q (near place opens)) opens)
      ∙ read_room q place opens (passes (near place opens) (asked_width q (near place opens))) h refl

  units_room : (unit : RunUnit) (count place : ℕ) (opens : List Opened) (r : Option Reason) → place ≤ bit_limit
      → passes (near place opens) (unit_width unit * count) ≡ r
      → units_within unit count (far place opens) r ≡ units_within unit count (near place opens) r
  units_room unit count place opens (Some reason) h e = refl
  units_room unit count place opens None h e =
      ap (λ (bits : List Bool). Ok (numbers_at (replicate count (unit_width unit)) bits)) (far_bits place opens h)
      ∙ ap Ok (numbers_front (unit_width unit) count (bits_at (near place opens)) (octet_bits B)
      (taken_size (near place opens) (unit_width unit * count) e))

  units_front : (unit : RunUnit) (count place : ℕ) (opens : List Opened) → place ≤ bit_limit
      → read_units unit count (far place opens) ≡ read_units unit count (near place opens)
  unfolding read_units
  units_front unit count place opens h =
      ap (units_within unit count (far place opens)) (passes_front place (unit_width unit * count) opens)
      ∙ units_room unit count place opens (passes (near place opens) (unit_width unit * count)) h refl

  answer_limit : (q : Ask) (place : ℕ) (opens : List Opened) (n : ℕ) → read q (near place opens) ≡ Ok n → place + width_at place q n ≤ bit_limit
  unfolding near
  answer_limit q place opens n e =
      let a : Answered q (near place opens) n = answer_read q (near place opens) n e in
      omega (arith, taken_limit (near place opens) (asked_width q (near place opens)) a.room, (written q (near place opens) n a).0)

  units_limit : (unit : RunUnit) (count place : ℕ) (opens : List Opened) (units : List ℕ) → read_units unit count (near place opens) ≡ Ok units
      → place + unit_width unit * count ≤ bit_limit
  unfolding near read_units
  units_limit unit count place opens units e = by_room (passes (near place opens) (unit_width unit * count)) refl e
    where
      by_room : (r : Option Reason) → passes (near place opens) (unit_width unit * count) ≡ r
          → units_within unit count (near place opens) r ≡ Ok units → place + unit_width unit * count ≤ bit_limit
      by_room None f g = taken_limit (near place opens) (unit_width unit * count) f
      by_room (Some reason) f g = cc

  -- the same, but for the octets
  abbrev pub Alike : Result (seen.Value × Cursor) Fault → Result (seen.Value × Cursor) Fault → Type 0
  Alike (Ok x) (Ok y) =
      (x.0 ≡ y.0) × (x.1.place ≡ y.1.place) × (x.1.octets ≡ A ++ B) × (y.1.octets ≡ A) × (y.1.place ≤ bit_limit)
  Alike (Ok x) (Err g) = ⊥
  Alike (Err f) (Ok y) = ⊥
  Alike (Err f) (Err g) = f ≡ g

  step_front : {X : Type 0} (p : Path) (place : ℕ) (opens : List Opened) (r : Result X Reason)
      (first second : X → Result (seen.Value × Cursor) Fault) → ((x : X) → r ≡ Ok x → Alike (first x) (second x))
      → Alike (goes_on p (far place opens) r first) (goes_on p (near place opens) r second)
  unfolding near far
  step_front p place opens (Ok x) first second h = h x refl
  step_front p place opens (Err reason) first second h = refl

  pub run_front : (p : Prog) (place : ℕ) (opens : List Opened) → place ≤ bit_limit
      → Alike (run p (far place opens)) (run p (near place opens))
  unfolding run near far
  run_front (done v) place opens h = (refl, refl, refl, refl, h)
  run_front never place opens h = refl
  run_front (ask p q next) place opens h =
      let first = λ (n : ℕ). run (next n) (answered_at q n (far place opens)) in
      let second = λ (n : ℕ). run (next n) (answered_at q n (near place opens)) in
      subst (λ (r : Result ℕ Reason). Alike (goes_on p (far place opens) r first) (goes_on p (near place opens) (read q (near place opens)) second))
      (sym (read_front q place opens h))
      (step_front p place opens (read q (near place opens)) first second
      (λ n e. run_front (next n) (place + width_at place q n) (opens_after q n (place + width_at place q n) opens)
      (answer_limit q place opens n e)))
  run_front (questions.take p unit count next) place opens h =
      let first = λ (units : List ℕ). run (next units) (moved_by (unit_width unit * count) (far place opens)) in
      let second = λ (units : List ℕ). run (next units) (moved_by (unit_width unit * count) (near place opens)) in
      subst (λ (r : Result (List ℕ) Reason). Alike (goes_on p (far place opens) r first)
      (goes_on p (near place opens) (read_units unit count (near place opens)) second))
      (sym (units_front unit count place opens h))
      (step_front p place opens (read_units unit count (near place opens)) first second
      (λ units e. run_front (next units) (place + unit_width unit * count) opens (units_limit unit count place opens units e)))

  -- neither ends at the limit
  not_whole : (x : seen.Value × Cursor) (octets : List ℕ) → x.1.octets ≡ octets → x.1.place ≤ bit_limit → bit_limit + 8 ≤ 8 * length octets
      → only (Ok x) ≡ Err (record { bit = x.1.place; reason = reasons.Tail; path = [] })
  not_whole x octets is short size =
      let size_is : length x.1.octets ≡ length octets = ap length is in
      ap (λ (b : Bool). cond b (Ok x.0) (Err (record { bit = x.1.place; reason = reasons.Tail; path = [] })))
      (other_place x.1.place (8 * length x.1.octets) (omega (arith, short, size, size_is)))

  only_front : (r s : Result (seen.Value × Cursor) Fault) → Alike r s → only r ≡ only s
  only_front (Ok x) (Ok y) h =
      not_whole x (A ++ B) h.2 (omega (arith, h.1, h.4)) longer
      ∙ ap (λ (n : ℕ). Err (record { bit = n; reason = reasons.Tail; path = [] })) h.1
      ∙ sym (not_whole y A h.3 h.4 long)
  only_front (Ok x) (Err g) h = absurd h
  only_front (Err f) (Ok y) h = absurd h
  only_front (Err f) (Err g) h = ap Err h

  more_decoded : (t : Tree) → decoded t (A ++ B) ≡ decoded t A
  unfolding near far
  more_decoded t = only_front (run (asks_whole t) (at_first (A ++ B))) (run (asks_whole t) (at_first A)) (run_front (asks_whole t) 0 [] (omega arith))

-- so many octets are enough
pub front_decoded : (t : Tree) (octets : List ℕ) (n : ℕ) → bit_limit + 8 ≤ 8 * n → n ≤ length octets
    → decoded t (take n octets) ≡ decoded t octets
front_decoded t octets n enough within =
    sym (more_decoded (take n octets) (drop n octets) (omega (arith, enough, length-take-le n octets within)) t)
    ∙ ap (decoded t) (take-append-drop n octets)

-- what is decoded of others that give the same
pub decodes_as : (t : Tree) (octets others : List ℕ) (r : Result Value DecodeError) → decoded t others ≡ decoded t octets
    → Decodes t others r → Decodes t octets r
decodes_as t octets others (Ok v) same h = sym same ∙ h
decodes_as t octets others (Err (errors.Refused bit reason path)) same h = sym same ∙ h
decodes_as t octets others (Err errors.Memory) same h = tt
