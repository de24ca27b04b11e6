-- Runs of octets and of bits.
use Rattle.std.proofs.Common.{◌≡◌, ℕ, zero, suc, ◌+◌, ◌-◌, ◌*◌, ◌/◌, ◌%◌, ◌<◌, ◌≤◌, Bool, List, [], ◌∷◌, ◌++◌, length, get_or, take as first, drop, replicate, None, Some, Result, Ok, Err, refl, sym, ap, subst, ◌∙◌, arith, append_assoc}
use Rattle.std.specs.Result.{IsOk}
use Rattle.std.proofs.lemmas.List.{drop-drop, drop_at, take_at, length-take, length-drop, length-replicate, length-append, take-append-drop, get_or-take, get_or-append-add}
use Rattle.std.proofs.lemmas.Grind.{flat_map-append}
use Rattle.bits_core.proofs.BitLemmas.{length-octet_bits, length-bits_of, number_is}
use Rattle.bits_core.specs.declared.reader.BitError.{BitError}
use Rattle.bits_core.specs.declared.reader.BitError.TheVariants.{Short, Padding}
use Rattle.bits_core.specs.Bits.{bits_of, number_of, numbers_at, octet_bits}
use Rattle.bits_core.specs.Reading.{Reading, TakesBits, TakesNumber, bits_left, moved}
use Rattle.std.proofs.Math.Nat.{mul-le-mul_left}
use Rattle.proof_aper.proofs.values.Found.{taken_size}
use Rattle.aper_defs.specs.declared.reason.Reason.{Reason}
use Rattle.aper_defs.specs.Fields.{RunUnit}
use Rattle.aper_defs.specs.Bits.{unit_width}
use Rattle.aper_defs.specs.Reading.{Cursor, passes, bits_at, moved_by, read_units, units_within}
use Rattle.aper_cursor.specs.Answers.{TakesRun}

-- one more number of a run
pub numbers_more : (width count : ℕ) (bits : List Bool)
    → numbers_at (replicate (count + 1) width) bits
    ≡ numbers_at (replicate count width) bits ++ number_of (first width (drop (width * count) bits)) ∷ []
numbers_more width count bits = ap (λ (n : ℕ). numbers_at (replicate n width) bits) one ∙ go count bits
  where
    one : count + 1 ≡ suc count
    one = omega arith

    go : (k : ℕ) (bs : List Bool) → numbers_at (replicate (suc k) width) bs
        ≡ numbers_at (replicate k width) bs ++ number_of (first width (drop (width * k) bs)) ∷ []
    go zero bs =
        let none : width * zero ≡ 0 = omega arith in
        ap (λ (n : ℕ). number_of (first width (drop n bs)) ∷ []) (sym none)
    go (suc k) bs =
        let further : width + width * k ≡ width * suc k = omega arith in
        let there : drop (width * k) (drop width bs) ≡ drop (width * suc k) bs =
        drop-drop (width * k) width bs ∙ ap (λ (n : ℕ). drop n bs) further in
        ap (λ (ns : List ℕ). number_of (first width bs) ∷ ns) (go k (drop width bs))
        ∙ ap (λ (ds : List Bool). number_of (first width bs) ∷ (numbers_at (replicate k width) (drop width bs) ++ number_of (first width ds) ∷ [])) there

pub read_run : (unit : RunUnit) (count : ℕ) (c : Cursor) → passes c (unit_width unit * count) ≡ None
    → read_units unit count c ≡ Ok (numbers_at (replicate count (unit_width unit)) (bits_at c))
unfolding read_units
read_run unit count c room = ap (units_within unit count c) room

-- octets from the beginning of one on
octets_from : (octets : List ℕ) (q : ℕ) → q ≤ length octets → drop (8 * q) (octet_bits octets) ≡ octet_bits (drop q octets)
octets_from octets q h =
    let split : octet_bits octets ≡ octet_bits (first q octets) ++ octet_bits (drop q octets) =
    ap octet_bits (sym (take-append-drop q octets)) ∙ flat_map-append (bits_of 8) (first q octets) (drop q octets) in
    ap (drop (8 * q)) split
    ∙ drop_at (octet_bits (first q octets)) (octet_bits (drop q octets)) (8 * q)
    (omega (arith, length-octet_bits (first q octets), length-take q octets))

whole_octets : (octets : List ℕ) (count : ℕ) → ((k : ℕ) → k < count → get_or octets k 0 < 256) → count ≤ length octets
    → numbers_at (replicate count 8) (octet_bits octets) ≡ first count octets
whole_octets octets zero small h = refl
whole_octets [] (suc count) small h = absurd (omega (arith, h))
whole_octets (o ∷ octets) (suc count) small h =
    let size : length (bits_of 8 o) ≡ 8 = length-bits_of 8 o in
    ap (λ (bs : List Bool). number_of bs ∷ numbers_at (replicate count 8) (drop 8 (bits_of 8 o ++ octet_bits octets)))
    (take_at (bits_of 8 o) (octet_bits octets) 8 size)
    ∙ ap (λ (bs : List Bool). number_of (bits_of 8 o) ∷ numbers_at (replicate count 8) bs) (drop_at (bits_of 8 o) (octet_bits octets) 8 size)
    ∙ ap (λ (n : ℕ). n ∷ numbers_at (replicate count 8) (octet_bits octets)) (number_is 8 o (small 0 (omega arith)))
    ∙ ap (λ (ns : List ℕ). o ∷ ns) (whole_octets octets count (λ k g. small (suc k) (omega (arith, g))) (omega (arith, h)))

-- octets behind others are the numbers that stand there
pub aligned_run : (octets : List ℕ) (place count : ℕ) (out more : List ℕ) → place % 8 ≡ 0 → place / 8 + count ≤ length octets
    → more ≡ out ++ first (place / 8 + count - place / 8) (drop (place / 8) octets)
    → ((i d : ℕ) → i < length more → get_or more i d < 256)
    → more ≡ out ++ numbers_at (replicate count 8) (drop place (octet_bits octets))
aligned_run octets place count out more whole h e small =
    let q = place / 8 in
    let rest = drop q octets in
    let size : q + count - q ≡ count = omega arith in
    let put : more ≡ out ++ first count rest = e ∙ ap (λ (k : ℕ). out ++ first k rest) size in
    let left : count ≤ length rest = omega (arith, h, length-drop q octets) in
    let long : length more ≡ length out + count =
    ap length put ∙ length-append out (first count rest) ∙ omega (arith, length-take count rest, left) in
    let below : (k : ℕ) → k < count → get_or rest k 0 < 256 = λ k g.
    subst (λ (o : ℕ). o < 256)
    (ap (λ (us : List ℕ). get_or us (length out + k) 0) put ∙ get_or-append-add out (first count rest) k 0 ∙ get_or-take count rest k 0 g)
    (small (length out + k) 0 (omega (arith, long, g))) in
    let there : drop place (octet_bits octets) ≡ octet_bits rest =
    ap (λ (p : ℕ). drop p (octet_bits octets)) (let same : place ≡ 8 * (place / 8) = omega (arith, whole) in same)
    ∙ octets_from octets q (omega (arith, h)) in
    put ∙ ap (λ (us : List ℕ). out ++ us)
    (sym (ap (numbers_at (replicate count 8)) there ∙ whole_octets rest count below left))

length-numbers_at : (widths : List ℕ) (bits : List Bool) → length (numbers_at widths bits) ≡ length widths
length-numbers_at [] bits = refl
length-numbers_at (w ∷ widths) bits = ap suc (length-numbers_at widths (drop w bits))

pub run_wrong : (unit : RunUnit) (count : ℕ) (c : Cursor) (width : ℕ) (reason : Reason) → width ≡ unit_width unit
    → Some reason ≡ passes c (width * count) → read_units unit count c ≡ Err reason
unfolding read_units
run_wrong unit count c width reason w e =
    ap (units_within unit count c) (ap (λ (k : ℕ). passes c (k * count)) (sym w) ∙ sym e)

pub run_taken : (unit : RunUnit) (count : ℕ) (old new : Cursor) (before after : List ℕ) (width : ℕ) → width ≡ unit_width unit
    → passes old (width * count) ≡ None → after ≡ before ++ numbers_at (replicate count width) (bits_at old)
    → new ≡ moved_by (width * count) old → TakesRun unit count old new before after
run_taken unit count old new before after width w room put moves = record {
  units = numbers_at (replicate count (unit_width unit)) (bits_at old);
  stand = read_run unit count old (subst (λ (k : ℕ). passes old (k * count) ≡ None) w room);
  put = put ∙ ap (λ (k : ℕ). before ++ numbers_at (replicate count k) (bits_at old)) w;
  size = length-numbers_at (replicate count (unit_width unit)) (bits_at old) ∙ length-replicate count (unit_width unit);
  moves = moves ∙ ap (λ (k : ℕ). moved_by (k * count) old) w;
}

-- bits that are there are taken
pub taken_ok : (old new : Reading) (width : ℕ) (r : Result ℕ BitError) → width ≤ length (bits_left old) → TakesBits old new width r
    → IsOk r
taken_ok old new width (Ok n) h t = refl
taken_ok old new width (Err Short) h t = absurd (omega (arith, h, t.0))
taken_ok old new width (Err Padding) h t = absurd t

-- ---- one number after another
left_length : (r : Reading) → length (bits_left r) ≡ 8 * length r.octets - r.place
left_length r = omega (arith, length-drop r.place (octet_bits r.octets), length-octet_bits r.octets)

pub room_in_run : (c : Cursor) (width count done : ℕ) (reader : Reading) → passes c (width * count) ≡ None → done < count
    → reader ≡ record { octets = c.octets; place = c.place + width * done } → width ≤ length (bits_left reader)
room_in_run c width count done reader room h e =
    let next : suc done ≤ count = omega arith in
    let left : length (bits_left reader) ≡ 8 * length c.octets - (c.place + width * done) =
    ap (λ (r : Reading). length (bits_left r)) e ∙ left_length (record { octets = c.octets; place = c.place + width * done }) in
    omega (arith, left, mul-le-mul_left width next, taken_size c (width * count) room, length-drop c.place (octet_bits c.octets), length-octet_bits c.octets)

pub run_moves : (c : Cursor) (width done n : ℕ) (reader new : Reading)
    → reader ≡ record { octets = c.octets; place = c.place + width * done } → TakesNumber reader new width n
    → new ≡ record { octets = c.octets; place = c.place + width * (done + 1) }
run_moves c width done n reader new e t =
    let there : c.place + width * done + width ≡ c.place + width * (done + 1) = omega arith in
    t.moves ∙ ap (λ (r : Reading). moved r width) e ∙ ap (λ (p : ℕ). record { octets = c.octets; place = p }) there

pub run_puts : (c : Cursor) (width done n : ℕ) (reader new : Reading) (start out more : List ℕ)
    → reader ≡ record { octets = c.octets; place = c.place + width * done } → TakesNumber reader new width n
    → out ≡ start ++ numbers_at (replicate done width) (bits_at c) → more ≡ out ++ n ∷ []
    → more ≡ start ++ numbers_at (replicate (done + 1) width) (bits_at c)
run_puts c width done n reader new start out more e t put push =
    let before = numbers_at (replicate done width) (bits_at c) in
    let value : n ≡ number_of (first width (drop (width * done) (bits_at c))) =
    t.value ∙ ap (λ (r : Reading). number_of (first width (bits_left r))) e
    ∙ ap (λ (bs : List Bool). number_of (first width bs)) (sym (drop-drop (width * done) c.place (octet_bits c.octets))) in
    push ∙ ap (λ (us : List ℕ). us ++ n ∷ []) put
    ∙ ap (λ (m : ℕ). (start ++ before) ++ m ∷ []) value
    ∙ append_assoc start before (number_of (first width (drop (width * done) (bits_at c))) ∷ [])
    ∙ ap (λ (us : List ℕ). start ++ us) (sym (numbers_more width done (bits_at c)))
