-- What was read of octets, or found wrong, stays so when more octets come.
use Rattle.std.proofs.Common.{◌≡◌, ℕ, zero, suc, ◌+◌, ◌*◌, ◌<◌, ◌≤◌, nat_lt, cond, Bool, true, false, List, [], ◌∷◌, ◌++◌, length, take, drop, replicate, None, Some, Option, Result, Ok, Err, refl, sym, ap, subst, ◌∙◌, arith}
use Rattle.std.proofs.lemmas.List.{length-append, length-drop, take-append-le, drop-append-le}
use Rattle.std.proofs.lemmas.Grind.{flat_map-append}
use Rattle.bits_core.specs.Bits.{bits_of, number_of, numbers_at, octet_bits}
use Rattle.bits_core.proofs.BitLemmas.{length-octet_bits}
use Rattle.aper_defs.specs.declared.reason.Reason.{Reason}
use Rattle.aper_defs.specs.declared.reason.Reason.TheVariants as reasons
use Rattle.aper_defs.specs.Values.{Value}
use Rattle.aper_defs.specs.Fields.{Path, Ask, RunUnit, flag, constrained, digits, signed, small, extent, addition_bits, character, ie_count, ie_id, pad, opening, closing, end}
use Rattle.aper_defs.specs.Bits.{unit_width}
use Rattle.aper_defs.specs.Questions.{Prog, done, ask, never}
use Rattle.aper_defs.specs.Questions as questions
use Rattle.aper_defs.specs.Reading.{Cursor, Fault, bits_at, is_within, bit_limit, passes, told_width, asked_width, judged, answered, answer_of, read, read_within, read_units, units_within, answered_at, moved_by, goes_on, run}
use Rattle.proof_aper.proofs.answers.NumberFacts.{by_cases, below, not_below, is_below}
use Rattle.proof_aper.proofs.places.Placed.{Room, room_passes, within_less}
use Rattle.proof_aper.proofs.values.Found.{taken_size, taken_limit}
use Rattle.proof_aper.specs.pieces.Onto.{onto, StillRefused}

-- ---- the bits at a place
bits_more : (c : Cursor) (more : List ℕ) → c.place ≤ 8 * length c.octets → bits_at (onto more c) ≡ bits_at c ++ octet_bits more
bits_more c more h =
    ap (drop c.place) (flat_map-append (bits_of 8) c.octets more)
    ∙ drop-append-le c.place (octet_bits c.octets) (octet_bits more) (omega (arith, length-octet_bits c.octets, h))

bits_left : (c : Cursor) → 1 ≤ length (bits_at c) → c.place + length (bits_at c) ≡ 8 * length c.octets
bits_left c h = omega (arith, length-drop c.place (octet_bits c.octets), length-octet_bits c.octets, h)

-- a length determinant shows its width in its first two bits
told_same : (bits more : List Bool) → 2 ≤ length bits → told_width (bits ++ more) ≡ told_width bits
told_same [] more h = absurd (omega (arith, h))
told_same (b ∷ []) more h = absurd (omega (arith, h))
told_same (true ∷ true ∷ bits) more h = refl
told_same (true ∷ false ∷ bits) more h = refl
told_same (false ∷ true ∷ bits) more h = refl
told_same (false ∷ false ∷ bits) more h = refl

told_least : (bits : List Bool) → 8 ≤ told_width bits
told_least [] = omega arith
told_least (true ∷ []) = omega arith
told_least (false ∷ []) = omega arith
told_least (true ∷ true ∷ bits) = omega arith
told_least (true ∷ false ∷ bits) = omega arith
told_least (false ∷ true ∷ bits) = omega arith
told_least (false ∷ false ∷ bits) = omega arith

told_short : (bits : List Bool) → length bits < 2 → told_width bits ≡ 8
told_short [] h = refl
told_short (true ∷ []) h = refl
told_short (false ∷ []) h = refl
told_short (b ∷ d ∷ bits) h = absurd (omega (arith, h))

told_more : (c : Cursor) (more : List ℕ) → 2 ≤ length (bits_at c) → told_width (bits_at (onto more c)) ≡ told_width (bits_at c)
told_more c more h =
    ap told_width (bits_more c more (omega (arith, bits_left c (omega (arith, h))))) ∙ told_same (bits_at c) (octet_bits more) h

told_grows : (c : Cursor) (more : List ℕ) → told_width (bits_at c) ≤ told_width (bits_at (onto more c))
told_grows c more = by_cases (nat_lt (length (bits_at c)) 2) (λ b. told_width (bits_at c) ≤ told_width (bits_at (onto more c)))
    (λ e. omega (arith, told_short (bits_at c) (is_less e), told_least (bits_at (onto more c))))
    (λ e. omega (arith, told_more c more (not_below (length (bits_at c)) 2 e)))
  where
    is_less : nat_lt (length (bits_at c)) 2 ≡ true → length (bits_at c) < 2
    is_less e = below (length (bits_at c)) 2 e

told_room : (c : Cursor) (more : List ℕ) → passes c (told_width (bits_at c)) ≡ None
    → told_width (bits_at (onto more c)) ≡ told_width (bits_at c)
told_room c more room =
    told_more c more (omega (arith, told_least (bits_at c), taken_size c (told_width (bits_at c)) room))

width_more : (q : Ask) (c : Cursor) (more : List ℕ) → passes c (asked_width q c) ≡ None → asked_width q (onto more c) ≡ asked_width q c
width_more (extent bounds) c more room = told_room c more room
width_more opening c more room = told_room c more room
width_more flag c more room = refl
width_more (constrained role width most) c more room = refl
width_more (digits count most) c more room = refl
width_more (signed count low high) c more room = refl
width_more (small role) c more room = refl
width_more (addition_bits count) c more room = refl
width_more character c more room = refl
width_more (ie_count least) c more room = refl
width_more (ie_id known left after) c more room = refl
width_more pad c more room = refl
width_more closing c more room = refl
width_more end c more room = refl

width_grows : (q : Ask) (c : Cursor) (more : List ℕ) → asked_width q c ≤ asked_width q (onto more c)
width_grows (extent bounds) c more = told_grows c more
width_grows opening c more = told_grows c more
width_grows flag c more = omega arith
width_grows (constrained role width most) c more = omega arith
width_grows (digits count most) c more = omega arith
width_grows (signed count low high) c more = omega arith
width_grows (small role) c more = omega arith
width_grows (addition_bits count) c more = omega arith
width_grows character c more = omega arith
width_grows (ie_count least) c more = omega arith
width_grows (ie_id known left after) c more = omega arith
width_grows pad c more = omega arith
width_grows closing c more = omega arith
width_grows end c more = omega arith

judged_more : (q : Ask) (c : Cursor) (more : List ℕ) (m : ℕ) → judged q (onto more c) m ≡ judged q c m
judged_more (extent bounds) c more m = refl
judged_more opening c more m = refl
judged_more flag c more m = refl
judged_more (constrained role width most) c more m = refl
judged_more (digits count most) c more m = refl
judged_more (signed count low high) c more m = refl
judged_more (small role) c more m = refl
judged_more (addition_bits count) c more m = refl
judged_more character c more m = refl
judged_more (ie_count least) c more m = refl
judged_more (ie_id known left after) c more m = refl
judged_more pad c more m = refl
judged_more closing c more m = refl
judged_more end c more m = refl

answer_more : (q : Ask) (c : Cursor) (more : List ℕ) (m : ℕ) → answer_of q (onto more c) m ≡ answer_of q c m
answer_more (extent bounds) c more m = refl
answer_more opening c more m = refl
answer_more flag c more m = refl
answer_more (constrained role width most) c more m = refl
answer_more (digits count most) c more m = refl
answer_more (signed count low high) c more m = refl
answer_more (small role) c more m = refl
answer_more (addition_bits count) c more m = refl
answer_more character c more m = refl
answer_more (ie_count least) c more m = refl
answer_more (ie_id known left after) c more m = refl
answer_more pad c more m = refl
answer_more closing c more m = refl
answer_more end c more m = refl

answered_more : (q : Ask) (c : Cursor) (more : List ℕ) (m : ℕ) (r : Option Reason) → answered q (onto more c) m r ≡ answered q c m r
answered_more q c more m None = ap Ok (answer_more q c more m)
answered_more q c more m (Some reason) = refl

-- ---- what a field passes
pub room_of : (c : Cursor) (width : ℕ) → passes c width ≡ None → Room c width
room_of c width e = record {
  within = inside (is_within (c.place + width) c.opens) refl e;
  limit = taken_limit c width e;
  there = there (is_within (c.place + width) c.opens) (nat_lt bit_limit (c.place + width))
      (nat_lt (8 * length c.octets) (c.place + width)) refl e;
}
  where
    inside : (a : Bool) → is_within (c.place + width) c.opens ≡ a
        → cond a (cond (nat_lt bit_limit (c.place + width)) (Some reasons.TooLong)
        (cond (nat_lt (8 * length c.octets) (c.place + width)) (Some reasons.Truncated) None)) (Some reasons.Overrun) ≡ None
        → is_within (c.place + width) c.opens ≡ true
    inside true f g = f
    inside false f g = cc

    there : (a b d : Bool) → nat_lt (8 * length c.octets) (c.place + width) ≡ d
        → cond a (cond b (Some reasons.TooLong) (cond d (Some reasons.Truncated) None)) (Some reasons.Overrun) ≡ None
        → c.place + width ≤ 8 * length c.octets
    there true false false f g = not_below (8 * length c.octets) (c.place + width) f
    there true false true f g = cc
    there true true d f g = cc
    there false b d f g = cc

passes_none : (c : Cursor) (more : List ℕ) (width : ℕ) → passes c width ≡ None → passes (onto more c) width ≡ None
passes_none c more width e =
    let r : Room c width = room_of c width e in
    room_passes (onto more c) width (record {
      within = r.within;
      limit = r.limit;
      there = omega (arith, r.there, length-append c.octets more);
    })

-- what is passed is still passed, where more is asked for: by its reason, but that past the limit an end may come first
record StillPassed (c : Cursor) (width : ℕ) (reason : Reason) : Type 0 where
  pub now : Reason
  pub is : passes c width ≡ Some now
  pub same : (reason ≡ reasons.TooLong → ⊥) → now ≡ reason

passes_some : (c : Cursor) (more : List ℕ) (width wider : ℕ) (reason : Reason) → width ≤ wider → passes c width ≡ Some reason
    → (reason ≡ reasons.Truncated → ⊥) → StillPassed (onto more c) wider reason
passes_some c more width wider reason wide e other =
    go (is_within (c.place + width) c.opens) (nat_lt bit_limit (c.place + width)) (nat_lt (8 * length c.octets) (c.place + width))
    refl refl e
  where
    overrun : is_within (c.place + width) c.opens ≡ false → (b : Bool) → is_within (c.place + wider) c.opens ≡ b
        → cond b (cond (nat_lt bit_limit (c.place + wider)) (Some reasons.TooLong)
        (cond (nat_lt (8 * length (c.octets ++ more)) (c.place + wider)) (Some reasons.Truncated) None)) (Some reasons.Overrun)
        ≡ Some reasons.Overrun
    overrun f true g =
        let clash : is_within (c.place + width) c.opens ≡ true =
        within_less c.opens (c.place + width) (c.place + wider) (omega (arith, wide)) g in absurd (cc (clash, f))
    overrun f false g = refl

    beyond : nat_lt bit_limit (c.place + width) ≡ true → nat_lt bit_limit (c.place + wider) ≡ true
    beyond f = is_below bit_limit (c.place + wider)
        (omega (arith, wide, below bit_limit (c.place + width) f))

    long : nat_lt bit_limit (c.place + wider) ≡ true → (b : Bool) → is_within (c.place + wider) c.opens ≡ b
        → (now : Reason) × (cond b (cond (nat_lt bit_limit (c.place + wider)) (Some reasons.TooLong)
        (cond (nat_lt (8 * length (c.octets ++ more)) (c.place + wider)) (Some reasons.Truncated) None)) (Some reasons.Overrun) ≡ Some now)
    long f true g = (
      reasons.TooLong,
      ap (λ b. cond b (Some reasons.TooLong)
          (cond (nat_lt (8 * length (c.octets ++ more)) (c.place + wider)) (Some reasons.Truncated) None)) f,
    )
    long f false g = (reasons.Overrun, refl)

    go : (a b d : Bool) → is_within (c.place + width) c.opens ≡ a → nat_lt bit_limit (c.place + width) ≡ b
        → cond a (cond b (Some reasons.TooLong) (cond d (Some reasons.Truncated) None)) (Some reasons.Overrun) ≡ Some reason
        → StillPassed (onto more c) wider reason
    go false b d f g h =
        let is_it : reasons.Overrun ≡ reason = cc in record {
          now = reasons.Overrun;
          is = overrun f (is_within (c.place + wider) c.opens) refl;
          same = λ n. is_it;
        }
    go true true d f g h =
        let is_it : reasons.TooLong ≡ reason = cc in
        let l = long (beyond g) (is_within (c.place + wider) c.opens) refl in record {
          now = l.0;
          is = l.1;
          same = λ n. absurd (n (sym is_it));
        }
    go true false true f g h = let is_it : reasons.Truncated ≡ reason = cc in absurd (other (sym is_it))
    go true false false f g h = cc

-- ---- one question
read_more : (q : Ask) (c : Cursor) (more : List ℕ) → passes c (asked_width q c) ≡ None → read q (onto more c) ≡ read q c
unfolding read
read_more q c more room =
    let d : Cursor = onto more c in
    let w = asked_width q c in
    let m = number_of (take w (bits_at c)) in
    let r : Room c w = room_of c w room in
    let within : c.place ≤ 8 * length c.octets = omega (arith, r.there) in
    let wide : asked_width q d ≡ w = width_more q c more room in
    let size : w ≤ length (bits_at c) = taken_size c w room in
    let same : number_of (take (asked_width q d) (bits_at d)) ≡ m =
    ap (λ (k : ℕ). number_of (take k (bits_at d))) wide ∙ ap (λ (bits : List Bool). number_of (take w bits)) (bits_more c more within)
    ∙ ap number_of (take-append-le w (bits_at c) (octet_bits more) size) in
    ap (read_within q d) (ap (passes d) wide ∙ passes_none c more w room)
    ∙ ap (λ (x : ℕ). answered q d x (judged q d x)) same
    ∙ ap (answered q d m) (judged_more q c more m) ∙ answered_more q c more m (judged q c m)
    ∙ sym (ap (read_within q c) room)

-- a wrong answer is still wrong
pub record StillWrong {A : Type 0} (now : Result A Reason) (reason : Reason) : Type 0 where
  pub why : Reason
  pub is : now ≡ Err why
  pub same : (reason ≡ reasons.TooLong → ⊥) → why ≡ reason

pub read_ok : (q : Ask) (c : Cursor) (more : List ℕ) (n : ℕ) → read q c ≡ Ok n → read q (onto more c) ≡ Ok n
unfolding read
read_ok q c more n e = go (passes c (asked_width q c)) refl e
  where
    go : (r : Option Reason) → passes c (asked_width q c) ≡ r → read_within q c r ≡ Ok n → read q (onto more c) ≡ Ok n
    go None is h = read_more q c more is ∙ e
    go (Some reason) is h = cc

pub read_wrong : (q : Ask) (c : Cursor) (more : List ℕ) (reason : Reason) → read q c ≡ Err reason → (reason ≡ reasons.Truncated → ⊥)
    → StillWrong (read q (onto more c)) reason
unfolding read
read_wrong q c more reason e other = go (passes c (asked_width q c)) refl e
  where
    go : (r : Option Reason) → passes c (asked_width q c) ≡ r → read_within q c r ≡ Err reason → StillWrong (read q (onto more c)) reason
    go None is h = record { why = reason; is = read_more q c more is ∙ e; same = λ n. refl }
    go (Some why) is h =
        let is_it : why ≡ reason = cc in
        let s = passes_some c more (asked_width q c) (asked_width q (onto more c)) reason (width_grows q c more)
        (is ∙ ap (λ (x : Reason). Some x) is_it) other in record {
          why = s.now;
          is = ap (read_within q (onto more c)) s.is;
          same = s.same;
        }

-- ---- a run
numbers_more : (width count : ℕ) (bits more : List Bool) → width * count ≤ length bits
    → numbers_at (replicate count width) (bits ++ more) ≡ numbers_at (replicate count width) bits
numbers_more width zero bits more h = refl
numbers_more width (suc count) bits more h =
    let sum : width * suc count ≡ width * count + width = omega arith in
    let first : width ≤ length bits = omega (arith, sum, h) in
    let others : width * count ≤ length (drop width bits) = omega (arith, sum, h, length-drop width bits) in
    ap (λ (xs : List Bool). number_of xs ∷ numbers_at (replicate count width) (drop width (bits ++ more))) (take-append-le width bits more first)
    ∙ ap (λ (xs : List Bool). number_of (take width bits) ∷ numbers_at (replicate count width) xs) (drop-append-le width bits more first)
    ∙ ap (λ (ns : List ℕ). number_of (take width bits) ∷ ns) (numbers_more width count (drop width bits) more others)

pub units_ok : (unit : RunUnit) (count : ℕ) (c : Cursor) (more us : List ℕ) → read_units unit count c ≡ Ok us
    → read_units unit count (onto more c) ≡ Ok us
unfolding read_units
units_ok unit count c more us e = go (passes c (unit_width unit * count)) refl e
  where
    go : (r : Option Reason) → passes c (unit_width unit * count) ≡ r → units_within unit count c r ≡ Ok us
        → read_units unit count (onto more c) ≡ Ok us
    go None is h =
        let r : Room c (unit_width unit * count) = room_of c (unit_width unit * count) is in
        let within : c.place ≤ 8 * length c.octets = omega (arith, r.there) in
        ap (units_within unit count (onto more c)) (passes_none c more (unit_width unit * count) is)
        ∙ ap (λ (bits : List Bool). let x : Result (List ℕ) Reason = Ok (numbers_at (replicate count (unit_width unit)) bits) in x)
        (bits_more c more within)
        ∙ ap (λ (ns : List ℕ). let x : Result (List ℕ) Reason = Ok ns in x)
        (numbers_more (unit_width unit) count (bits_at c) (octet_bits more) (taken_size c (unit_width unit * count) is))
        ∙ h
    go (Some reason) is h = cc

pub units_wrong : (unit : RunUnit) (count : ℕ) (c : Cursor) (more : List ℕ) (reason : Reason) → read_units unit count c ≡ Err reason
    → (reason ≡ reasons.Truncated → ⊥) → StillWrong (read_units unit count (onto more c)) reason
unfolding read_units
units_wrong unit count c more reason e other = go (passes c (unit_width unit * count)) refl e
  where
    go : (r : Option Reason) → passes c (unit_width unit * count) ≡ r → units_within unit count c r ≡ Err reason
        → StillWrong (read_units unit count (onto more c)) reason
    go None is h = cc
    go (Some why) is h =
        let is_it : why ≡ reason = cc in
        let s = passes_some c more (unit_width unit * count) (unit_width unit * count) reason (omega arith)
        (is ∙ ap (λ (x : Reason). Some x) is_it) other in record {
          why = s.now;
          is = ap (units_within unit count (onto more c)) s.is;
          same = s.same;
        }

-- ---- all that is asked
pub run_ok : (P : Prog) (c : Cursor) (more : List ℕ) (v : Value) (d : Cursor) → run P c ≡ Ok (v, d)
    → run P (onto more c) ≡ Ok (v, onto more d)
unfolding run
run_ok (done x) c more v d e =
    let g : (let a : Value × Cursor = (x, c) in a) ≡ (v, d) = cc in
    ap (λ (z : Value × Cursor). let r : Result (Value × Cursor) Fault = Ok (z.0, onto more z.1) in r) g
run_ok (ask p q next) c more v d e = go (read q c) refl e (λ n h. run_ok (next n) (answered_at q n c) more v d h)
  where
    go : (r : Result ℕ Reason) → read q c ≡ r → goes_on p c r (λ n. run (next n) (answered_at q n c)) ≡ Ok (v, d)
        → ((n : ℕ) → run (next n) (answered_at q n c) ≡ Ok (v, d) → run (next n) (onto more (answered_at q n c)) ≡ Ok (v, onto more d))
        → run (ask p q next) (onto more c) ≡ Ok (v, onto more d)
    go (Ok n) is h inner =
        ap (λ r. goes_on p (onto more c) r (λ m. run (next m) (answered_at q m (onto more c)))) (read_ok q c more n is) ∙ inner n h
    go (Err reason) is h inner = cc
run_ok (questions.take p unit count next) c more v d e =
    go (read_units unit count c) refl e (λ us h. run_ok (next us) (moved_by (unit_width unit * count) c) more v d h)
  where
    go : (r : Result (List ℕ) Reason) → read_units unit count c ≡ r
        → goes_on p c r (λ us. run (next us) (moved_by (unit_width unit * count) c)) ≡ Ok (v, d)
        → ((us : List ℕ) → run (next us) (moved_by (unit_width unit * count) c) ≡ Ok (v, d)
        → run (next us) (onto more (moved_by (unit_width unit * count) c)) ≡ Ok (v, onto more d))
        → run (questions.take p unit count next) (onto more c) ≡ Ok (v, onto more d)
    go (Ok us) is h inner =
        ap (λ r. goes_on p (onto more c) r (λ xs. run (next xs) (moved_by (unit_width unit * count) (onto more c))))
        (units_ok unit count c more us is) ∙ inner us h
    go (Err reason) is h inner = cc
run_ok never c more v d e = cc

refused_here : (now : Result (Value × Cursor) Fault) (place : ℕ) (p : Path) (reason why : Reason) (fault : Fault)
    → (let r : Result (Value × Cursor) Fault = Err (record { bit = place; reason = reason; path = p }) in r) ≡ Err fault
    → now ≡ Err (record { bit = place; reason = why; path = p }) → ((reason ≡ reasons.TooLong → ⊥) → why ≡ reason)
    → StillRefused now fault
refused_here now place p reason why fault e is same =
    let g : record { bit = place; reason = reason; path = p } ≡ fault = cc in
    subst (StillRefused now) g (record { why = why; is = is; same = same })

pub run_wrong : (P : Prog) (c : Cursor) (more : List ℕ) (fault : Fault) → run P c ≡ Err fault → (fault.reason ≡ reasons.Truncated → ⊥)
    → StillRefused (run P (onto more c)) fault
unfolding run
run_wrong (done x) c more fault e other = cc
run_wrong (ask p q next) c more fault e other =
    go (read q c) refl e (λ n h. run_wrong (next n) (answered_at q n c) more fault h other)
  where
    go : (r : Result ℕ Reason) → read q c ≡ r → goes_on p c r (λ n. run (next n) (answered_at q n c)) ≡ Err fault
        → ((n : ℕ) → run (next n) (answered_at q n c) ≡ Err fault → StillRefused (run (next n) (onto more (answered_at q n c))) fault)
        → StillRefused (run (ask p q next) (onto more c)) fault
    go (Ok n) is h inner =
        subst (λ r. StillRefused (goes_on p (onto more c) r (λ m. run (next m) (answered_at q m (onto more c)))) fault)
        (sym (read_ok q c more n is)) (inner n h)
    go (Err reason) is h inner =
        let g : record { bit = c.place; reason = reason; path = p } ≡ fault = cc in
        let s = read_wrong q c more reason is (λ t. other (sym (ap (λ (f : Fault). f.reason) g) ∙ t)) in
        refused_here (run (ask p q next) (onto more c)) c.place p reason s.why fault h
        (ap (λ r. goes_on p (onto more c) r (λ m. run (next m) (answered_at q m (onto more c)))) s.is) s.same
run_wrong (questions.take p unit count next) c more fault e other =
    go (read_units unit count c) refl e (λ us h. run_wrong (next us) (moved_by (unit_width unit * count) c) more fault h other)
  where
    go : (r : Result (List ℕ) Reason) → read_units unit count c ≡ r
        → goes_on p c r (λ us. run (next us) (moved_by (unit_width unit * count) c)) ≡ Err fault
        → ((us : List ℕ) → run (next us) (moved_by (unit_width unit * count) c) ≡ Err fault
        → StillRefused (run (next us) (onto more (moved_by (unit_width unit * count) c))) fault)
        → StillRefused (run (questions.take p unit count next) (onto more c)) fault
    go (Ok us) is h inner =
        subst (λ r. StillRefused (goes_on p (onto more c) r (λ xs. run (next xs) (moved_by (unit_width unit * count) (onto more c)))) fault)
        (sym (units_ok unit count c more us is)) (inner us h)
    go (Err reason) is h inner =
        let g : record { bit = c.place; reason = reason; path = p } ≡ fault = cc in
        let s = units_wrong unit count c more reason is (λ t. other (sym (ap (λ (f : Fault). f.reason) g) ∙ t)) in
        refused_here (run (questions.take p unit count next) (onto more c)) c.place p reason s.why fault h
        (ap (λ r. goes_on p (onto more c) r (λ xs. run (next xs) (moved_by (unit_width unit * count) (onto more c)))) s.is) s.same
run_wrong never c more fault e other =
    refused_here (run never (onto more c)) c.place [] reasons.Index reasons.Index fault e refl (λ n. refl)
