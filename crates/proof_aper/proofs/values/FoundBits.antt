-- The bits of fields that stand at a place are those of the fields.
use Rattle.std.proofs.Common.{◌≡◌, ℕ, zero, suc, ◌+◌, ◌*◌, ◌^◌, ◌<◌, ◌≤◌, ◌==◌, cond, Bool, true, false, List, [], ◌∷◌, ◌++◌, length, take as first, drop, replicate, None, Some, Option, Ok, refl, sym, ap, subst, ◌∙◌, arith, append_assoc}
use Rattle.std.specs.List.{flat_map}
use Rattle.std.proofs.lemmas.List.{length-take, length-drop, take-append-drop, drop-drop}
use Rattle.bits_core.specs.Bits.{bits_of, number_of, numbers_at, octet_bits, pad_of}
use Rattle.bits_core.proofs.BitLemmas.{bits_of-number_of, number_small}
use Rattle.aper_defs.specs.declared.reason.Reason.{Reason}
use Rattle.aper_defs.specs.declared.reason.Reason.TheVariants as reasons
use Rattle.aper_defs.specs.Fields.{Ask, Extent, RunUnit, Field, flag, constrained, digits, signed, small, extent, addition_bits, character, ie_count, ie_id, pad, opening, closing, end, whole, asked, run as run_field}
use Rattle.aper_defs.specs.Bits.{width_at, spelled, unit_width, field_bits}
use Rattle.aper_defs.specs.Reading.{Cursor, bits_at, told_width, form_of, told, start_of, passes, asked_width, judged_extent, moved_by, after_field, read_units, units_within}
use Rattle.proof_aper.proofs.answers.Standing.{Stands, StandAll, after_all}
use Rattle.proof_aper.proofs.answers.NumberFacts.{same}
use Rattle.proof_aper.proofs.places.Bits.{all_bits}
use Rattle.proof_aper.proofs.places.Placed.{AreBelow}
use Rattle.proof_aper.proofs.values.Found.{Answered, answer_read, not_wrong, taken_size}
use Rattle.proof_aper.proofs.values.FoundExtents.{Told, told_is, Right, extent_right}

-- so many bits at a place, and those after them
bits_there : (c : Cursor) (w : ℕ) → passes c w ≡ None → bits_at c ≡ bits_of w (number_of (first w (bits_at c))) ++ bits_at (moved_by w c)
bits_there c w room =
    let size : length (first w (bits_at c)) ≡ w = omega (arith, length-take w (bits_at c), taken_size c w room) in
    let front : bits_of w (number_of (first w (bits_at c))) ≡ first w (bits_at c) =
    ap (λ (n : ℕ). bits_of n (number_of (first w (bits_at c)))) (sym size) ∙ bits_of-number_of (first w (bits_at c)) in
    sym (take-append-drop w (bits_at c)) ∙ ap (λ (xs : List Bool). xs ++ drop w (bits_at c)) (sym front)
    ∙ ap (λ (xs : List Bool). bits_of w (number_of (first w (bits_at c))) ++ xs) (drop-drop w c.place (octet_bits c.octets))

told_right : (c : Cursor) (bounds : Extent) (m n : ℕ) → m ≡ number_of (first (told_width (bits_at c)) (bits_at c))
    → passes c (told_width (bits_at c)) ≡ None
    → judged_extent bounds (form_of m) ≡ None → told (form_of m) ≡ n → Right (told_width (bits_at c)) m n
told_right c bounds m n e room right is =
    let w = told_width (bits_at c) in
    let t : Told w m = subst (Told w) (sym e) (told_is (bits_at c) (taken_size c w room)) in
    subst (Right w m) is (extent_right bounds w m t right)

-- the width and the number of an answer are those that it is written with
pub written : (question : Ask) (c : Cursor) (n : ℕ) → Answered question c n
    → (asked_width question c ≡ width_at c.place question n) × (number_of (first (asked_width question c) (bits_at c)) ≡ spelled question n)
written flag c n a = (refl, sym a.bits ∙ a.same)
written (constrained role width most) c n a = (refl, sym a.bits ∙ a.same)
written (digits count most) c n a = (refl, sym a.bits ∙ a.same)
written (signed count low high) c n a = (refl, sym a.bits ∙ a.same)
written (small role) c n a = (refl, sym a.bits ∙ a.same)
written (extent bounds) c n a = let r = told_right c bounds a.m n a.bits a.room a.right a.same in (r.wide, sym a.bits ∙ r.number)
written (addition_bits count) c n a = (refl, sym a.bits ∙ a.same)
written character c n a = (refl, sym a.bits ∙ a.same)
written (ie_count least) c n a = (refl, sym a.bits ∙ a.same)
written (ie_id known left after) c n a = (refl, sym a.bits ∙ a.same)
written pad c n a = (refl, sym a.bits ∙ a.same)
written opening c n a = let r = told_right c (whole 1 16383 None) a.m n a.bits a.room a.right a.same in (r.wide, sym a.bits ∙ r.number)
written closing c n a = (
  swapped (c.place == start_of c.opens) (pad_of c.place) ∙ ap (λ (k : ℕ). cond (k == 0) (pad_of c.place) 8) a.same,
  sym a.bits ∙ same a.m 0 (not_wrong (a.m == 0) reasons.Padding a.right),
)
  where
    swapped : (b : Bool) (w : ℕ) → cond b 8 w ≡ cond (cond b 1 0 == 0) w 8
    swapped true w = refl
    swapped false w = refl
written end c n a = (refl, sym a.bits ∙ a.same)

-- numbers of one width
pub record AreRun (width count : ℕ) (bits : List Bool) (units : List ℕ) : Type 0 where
  pub count-is : length units ≡ count
  pub below : AreBelow (2 ^ width) units
  pub bits-are : bits ≡ flat_map (bits_of width) units ++ drop (width * count) bits

numbers_are : (width count : ℕ) (bits : List Bool) → width * count ≤ length bits
    → AreRun width count bits (numbers_at (replicate count width) bits)
numbers_are width zero bits h =
    let e : width * 0 ≡ 0 = omega arith in record { count-is = refl; below = tt; bits-are = ap (λ (n : ℕ). drop n bits) (sym e) }
numbers_are width (suc count) bits h =
    let e : width * suc count ≡ width + width * count = omega arith in
    let size : length (first width bits) ≡ width = omega (arith, length-take width bits, e, h) in
    let x = number_of (first width bits) in
    let rest = drop width bits in
    let others : AreRun width count rest (numbers_at (replicate count width) rest) = numbers_are width count rest (omega
    (arith, length-drop width bits, e, h)) in
    let units = numbers_at (replicate count width) rest in
    let front : bits_of width x ≡ first width bits = ap (λ (n : ℕ). bits_of n x) (sym size) ∙ bits_of-number_of
    (first width bits) in record {
      count-is = ap suc others.count-is;
      below = (subst (λ (n : ℕ). x < 2 ^ n) size (number_small (first width bits)), others.below);
      bits-are = sym (take-append-drop width bits) ∙ ap (λ (xs : List Bool). xs ++ rest) (sym front)
          ∙ ap (λ (xs : List Bool). bits_of width x ++ xs) others.bits-are
          ∙ ap (λ (xs : List Bool). bits_of width x ++ (flat_map (bits_of width) units ++ xs)) (drop-drop (width * count) width bits ∙ ap
          (λ (n : ℕ). drop n bits) (sym e))
          ∙ sym (append_assoc (bits_of width x) (flat_map (bits_of width) units) (drop (width * suc count) bits));
    }

pub units_are : (unit : RunUnit) (count : ℕ) (c : Cursor) (units : List ℕ) → read_units unit count c ≡ Ok units
    → AreRun (unit_width unit) count (bits_at c) units
unfolding read_units
units_are unit count c units e = go (passes c (unit_width unit * count)) refl e
  where
    go : (r : Option Reason) → passes c (unit_width unit * count) ≡ r → units_within unit count c r ≡ Ok units
        → AreRun (unit_width unit) count (bits_at c) units
    go None is h =
        let g : numbers_at (replicate count (unit_width unit)) (bits_at c) ≡ units = cc in
        subst (AreRun (unit_width unit) count (bits_at c)) g
        (numbers_are (unit_width unit) count (bits_at c) (taken_size c (unit_width unit * count) is))
    go (Some reason) is h = cc

field_there : (f : Field) (c : Cursor) → Stands f c → bits_at c ≡ field_bits c.place f ++ bits_at (after_field f c)
field_there (asked path question n) c s =
    let a : Answered question c n = answer_read question c n s in
    let r = written question c n a in
    let w = asked_width question c in
    bits_there c w a.room
    ∙ ap (λ (k : ℕ). bits_of k (number_of (first w (bits_at c))) ++ bits_at (moved_by k c)) r.0
    ∙ ap (λ (x : ℕ). bits_of (width_at c.place question n) x ++ bits_at (moved_by (width_at c.place question n) c)) r.1
field_there (run_field path unit units) c s =
    let r = units_are unit (length units) c units s in
    r.bits-are ∙ ap (λ (xs : List Bool). flat_map (bits_of (unit_width unit)) units ++ xs) (drop-drop
    (unit_width unit * length units) c.place (octet_bits c.octets))

-- what stands at a place is there
pub stand_there : (fs : List Field) (c : Cursor) → StandAll fs c → bits_at c ≡ all_bits c.place fs ++ bits_at (after_all fs c)
stand_there [] c s = refl
stand_there (asked path question n ∷ fs) c s =
    let f : Field = asked path question n in
    let d = after_field f c in
    field_there f c s.0 ∙ ap (λ (xs : List Bool). field_bits c.place f ++ xs) (stand_there fs d s.1)
    ∙ sym (append_assoc (field_bits c.place f) (all_bits d.place fs) (bits_at (after_all fs d)))
stand_there (run_field path unit units ∷ fs) c s =
    let f : Field = run_field path unit units in
    let d = after_field f c in
    field_there f c s.0 ∙ ap (λ (xs : List Bool). field_bits c.place f ++ xs) (stand_there fs d s.1)
    ∙ sym (append_assoc (field_bits c.place f) (all_bits d.place fs) (bits_at (after_all fs d)))
