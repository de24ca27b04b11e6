-- Fields whose bits are the same at every place.
use Rattle.std.proofs.Common.{◌≡◌, ℕ, ◌+◌, ◌*◌, ◌/◌, ◌%◌, ◌==◌, cond, Bool, true, false, List, [], ◌∷◌, ◌++◌, length, refl, sym, ap, ◌∙◌, arith}
use Rattle.std.specs.Prelude.{nat_lt, if◌then◌else◌}
use Rattle.bits_core.specs.Bits.{bits_of, pad_of, octet_bits}
use Rattle.bits_core.proofs.BitLemmas.{length-octet_bits}
use Rattle.aper_defs.specs.Trees.{Tree, Parts, sequence, part, no_parts}
use Rattle.aper_defs.specs.Values.{Value, Options, raw, components, no_options, present}
use Rattle.aper_defs.specs.Fields.{Path, Ask, Field, pad, opening, closing, end, extent, whole, octet, asked, run}
use Rattle.aper_defs.specs.Fields as fields
use Rattle.aper_defs.specs.Bits.{put_all, closed, octet_count, open_fields, extent_width, extent_number, width_at, spelled, part_units}
use Rattle.aper_defs.specs.Parts.{extension_fields}
use Rattle.aper_defs.specs.Layouts.{layout, component_fields, addition_fields, flag_fields, mark_fields, raw_fields}
use Rattle.proof_aper.proofs.places.Bits.{all_bits, total, length-all_bits, all_bits-append, all_bits-same, put_all-nil}

pub record IsSame (a b : List Field) : Type 0 where
  pub bits : (place : ℕ) → all_bits place a ≡ all_bits place b

total_same : (a b : List Field) → IsSame a b → (place : ℕ) → total place a ≡ total place b
total_same a b s place = sym (length-all_bits place a) ∙ ap length (s.bits place) ∙ length-all_bits place b

same_itself : (a : List Field) → IsSame a a
same_itself a = record { bits = λ place. refl }

pub same_after : (front a b : List Field) → IsSame a b → IsSame (front ++ a) (front ++ b)
same_after front a b s = record {
  bits = λ place. all_bits-append place front a
      ∙ ap (λ (xs : List Bool). all_bits place front ++ xs) (s.bits (place + total place front))
      ∙ sym (all_bits-append place front b);
}

same_before : (a b back : List Field) → IsSame a b → IsSame (a ++ back) (b ++ back)
same_before a b back s = record {
  bits = λ place. all_bits-append place a back
      ∙ ap (λ (xs : List Bool). xs ++ all_bits (place + total place a) back) (s.bits place)
      ∙ ap (λ (n : ℕ). all_bits place b ++ all_bits (place + n) back) (total_same a b s place)
      ∙ sym (all_bits-append place b back);
}

pub whole_same : (a b : List Field) → IsSame a b → put_all [] a ≡ put_all [] b
whole_same a b s = put_all-nil a ∙ s.bits 0 ∙ sym (put_all-nil b)

same_trans : (a b c : List Field) → IsSame a b → IsSame b c → IsSame a c
same_trans a b c s t = record { bits = λ place. s.bits place ∙ t.bits place }

same_both : (a b c d : List Field) → IsSame a b → IsSame c d → IsSame (a ++ c) (b ++ d)
same_both a b c d s t = same_trans (a ++ c) (b ++ c) (b ++ d) (same_before a b c s) (same_after b c d t)

relabeled : (i j : Path) (question : Ask) (n m : ℕ) → n ≡ m → IsSame (asked i question n ∷ []) (asked j question m ∷ [])
relabeled i j question n m h = record {
  bits = λ place. ap (λ (k : ℕ). bits_of (width_at place question k) (spelled question k) ++ []) h;
}

-- ---- complete encodings and open types, whatever the way to them
mark_of : List Field → ℕ
mark_of fs = if length (put_all [] fs) == 0 then 1 else 0

pub same_closed : (i j : Path) (a b : List Field) → IsSame a b → IsSame (closed i a) (closed j b)
unfolding mark_of
same_closed i j a b s = same_both a b (asked i closing (mark_of a) ∷ []) (asked j closing (mark_of b) ∷ []) s
    (relabeled i j closing (mark_of a) (mark_of b) (ap (λ (xs : List Bool). cond (length xs == 0) 1 0) (whole_same a b s)))

pub same_count : (i j : Path) (a b : List Field) → IsSame a b → octet_count (closed i a) ≡ octet_count (closed j b)
same_count i j a b s = ap (λ (xs : List Bool). length xs / 8) (whole_same (closed i a) (closed j b) (same_closed i j a b s))

pub same_open : (p q i j : Path) (a b : List Field) → IsSame a b → IsSame (open_fields p i a) (open_fields q j b)
same_open p q i j a b s =
    same_both (asked p pad 0 ∷ []) (asked q pad 0 ∷ []) _ _ (relabeled p q pad 0 0 refl)
    (same_both (asked p opening (octet_count (closed i a)) ∷ []) (asked q opening (octet_count (closed j b)) ∷ []) _ _
    (relabeled p q opening _ _ (same_count i j a b s))
    (same_both (closed i a) (closed j b) (asked i end 0 ∷ []) (asked j end 0 ∷ []) (same_closed i j a b s) (relabeled i j end 0 0 refl)))

-- ---- octets in place of an open type's contents
eights : (m : ℕ) → extent_width m % 8 ≡ 0
eights m = by (nat_lt m 128) (nat_lt m part_units)
  where
    by : (b c : Bool) → cond b 8 (cond c 16 8) % 8 ≡ 0
    by true c = refl
    by false true = refl
    by false false = refl

contents : (j : Path) (fs : List Field) (os : List ℕ) (place : ℕ) → octet_bits os ≡ put_all [] fs → place % 8 ≡ 0
    → octet_bits os ++ [] ≡ all_bits place (fs ++ asked j end 0 ∷ [])
unfolding bits_of
contents j fs os place h k =
    let e : 8 * (place / 8) + 0 ≡ place = omega arith in
    ap (λ (xs : List Bool). xs ++ []) (h ∙ put_all-nil fs ∙ sym (all_bits-same (place / 8) 0 fs) ∙ ap (λ (n : ℕ). all_bits n fs) e)
    ∙ sym (all_bits-append place fs (asked j end 0 ∷ []))

pub same_raw : (p q i j : Path) (os : List ℕ) (fs : List Field) → octet_bits os ≡ put_all [] (closed j fs)
    → IsSame (raw_fields p i (raw os)) (open_fields q j fs)
same_raw p q i j os fs h =
    let n = length os in
    let m = octet_count (closed j fs) in
    let size : 8 * n ≡ length (put_all [] (closed j fs)) = sym (length-octet_bits os) ∙ ap length h in
    let same_size : n ≡ m = omega arith in
    record {
      bits = λ place.
          let rest = place + pad_of place + extent_width m in
          let aligned : rest % 8 ≡ 0 = omega (arith, eights m) in
          ap (λ (k : ℕ). bits_of (pad_of place) 0 ++ (bits_of (extent_width k) (extent_number k) ++ (octet_bits os ++ []))) same_size
          ∙ ap (λ (xs : List Bool). bits_of (pad_of place) 0 ++ (bits_of (extent_width m) (extent_number m) ++ xs))
          (contents j (closed j fs) os rest h aligned);
    }

-- ---- a SEQUENCE whose one addition isn't named, and one whose one addition is
pub same_sequence : (q : Path) (root : Parts) (vs : Options) (name : List ℕ) (t : Tree) (v : Value) (os : List ℕ)
    → octet_bits os ≡ put_all [] (closed (fields.component name ∷ q) (layout (fields.component name ∷ q) t v))
    → IsSame (layout q (sequence true root no_parts) (components vs (present (raw os) no_options)))
    (layout q (sequence true root (part name false t no_parts)) (components vs (present v no_options)))
unfolding layout addition_fields
same_sequence q root vs name t v os h =
    same_after (extension_fields q true true) _ _
    (same_after (flag_fields q root vs) _ _
    (same_after (component_fields q root vs) _ _
    (same_after (mark_fields q (present v no_options)) _ _
    (same_both (raw_fields q q (raw os)) (open_fields q (fields.component name ∷ q) (layout (fields.component name ∷ q) t v)) [] []
    (same_raw q q q (fields.component name ∷ q) os (layout (fields.component name ∷ q) t v) h) (same_itself [])))))
