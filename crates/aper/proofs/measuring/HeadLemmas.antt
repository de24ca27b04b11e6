-- What stands before members: flags, marks, heads of elements and messages.
use Rattle.std.proofs.Common.{◌≡◌, ℕ, suc, ◌+◌, ◌≤◌, ◌==◌, cond, Bool, true, false, List, [], ◌∷◌, length, Option, Some, None, refl, sym, ap, ◌∙◌, arith}
use Rattle.bits_core.specs.Bits.{pad_of}
use Rattle.asn1_syntax.specs.declared.types.definition.Component.{Component}
use Rattle.aper_defs.specs.Trees.{Tree, Slot}
use Rattle.aper_defs.specs.Fields.{Path, Field, asked, flag, small, constrained, pad, ie_id, addition_bits}
use Rattle.aper_defs.specs.Fields as fields
use Rattle.aper_defs.specs.Layouts.{flag_fields, mark_fields, message_head}
use Rattle.aper_defs.specs.Membership.{HasComponents, AreAdditions, some_present}
use Rattle.proof_aper.proofs.answers.NumberFacts.{same}
use Rattle.proof_aper.proofs.places.Bits.{total}
use Rattle.aper_values.specs.types.Types.{parts_of}
use Rattle.aper_values.specs.declared.value.Value.{Value}
use Rattle.aper_values.specs.Views.{options_view}
use Rattle.aper_fields.specs.widths.Ends.{passed, end_of, Ends}
use Rattle.aper_fields.proofs.widths.EndLemmas.{ends_wide, passed_twice}
use Rattle.aper_fields.proofs.members.HeadLemmas.{presence_count}
use Rattle.aper.specs.measuring.Heads.{optional_count}

-- ---- flags
module _ (of : ℕ → Tree) where
  one_flag : (b : Bool) (p : Path) (place n answer : ℕ) (fs : List Field) → ((at : ℕ) → total at fs ≡ n)
      → total place (cond b (asked p flag answer ∷ fs) fs) ≡ cond b (suc n) n
  one_flag true p place n answer fs h = omega (arith, h (place + 1))
  one_flag false p place n answer fs h = h place

  flags_total : (p : Path) (parts : List Component) (vs : List (Option Value)) (place : ℕ)
      → HasComponents p (parts_of of parts) (options_view vs)
      → total place (flag_fields p (parts_of of parts) (options_view vs)) ≡ optional_count parts
  unfolding HasComponents
  flags_total p [] [] place h = refl
  flags_total p [] (None ∷ vs) place h = absurd h
  flags_total p [] (Some v ∷ vs) place h = absurd h
  flags_total p (c ∷ parts) [] place h = absurd h
  flags_total p (c ∷ parts) (None ∷ vs) place h =
      one_flag c.optional p place (optional_count parts) 0 (flag_fields p (parts_of of parts) (options_view vs))
      (λ at. flags_total p parts vs at h.1)
  flags_total p (c ∷ parts) (Some v ∷ vs) place h =
      one_flag c.optional p place (optional_count parts) 1 (flag_fields p (parts_of of parts) (options_view vs))
      (λ at. flags_total p parts vs at h.1)

  pub flags_end : (parts : List Component) (vs : List (Option Value)) (old new : ℕ)
      → ((p : Path) → HasComponents p (parts_of of parts) (options_view vs)) → new ≡ passed old (optional_count parts)
      → Ends old new (λ p. flag_fields p (parts_of of parts) (options_view vs))
  flags_end parts vs old new h is p rest =
      ends_wide old (optional_count parts) new (flag_fields p (parts_of of parts) (options_view vs)) rest (flags_total p parts vs old (h p)) is

-- ---- marks
some : (n : ℕ) → (suc n == 0) ≡ true → ⊥
some n e = let k : suc n ≡ 0 = same (suc n) 0 e in absurd (omega (arith, k))

pub no_marks : (vs : List (Option Value)) (old : ℕ) → (length vs == 0) ≡ true → Ends old old (λ p. mark_fields p (options_view vs))
no_marks [] old e p rest = refl
no_marks (None ∷ vs) old e p rest = absurd (some (length vs) e)
no_marks (Some v ∷ vs) old e p rest = absurd (some (length vs) e)

marks_total : (p : Path) (vs : List (Option Value)) (place : ℕ) → (length vs == 0) ≡ false
    → total place (mark_fields p (options_view vs)) ≡ 7 + length vs
marks_total p [] place e = let both : ⊥ = cc in absurd both
marks_total p (None ∷ vs) place e = omega (arith, presence_count vs)
marks_total p (Some v ∷ vs) place e = omega (arith, presence_count vs)

pub marks_end : (vs : List (Option Value)) (old new : ℕ) → (length vs == 0) ≡ false → new ≡ passed old (7 + length vs)
    → Ends old new (λ p. mark_fields p (options_view vs))
marks_end vs old new e is p rest =
    ends_wide old (7 + length vs) new (mark_fields p (options_view vs)) rest (marks_total p vs old e) is

-- ---- which additions may be there
pub none_are_additions : (extensible : Bool) (vs : List (Option Value)) → (length vs == 0) ≡ true → AreAdditions extensible (options_view vs)
none_are_additions extensible [] e = tt
none_are_additions extensible (None ∷ vs) e = absurd (some (length vs) e)
none_are_additions extensible (Some v ∷ vs) e = absurd (some (length vs) e)

pub some_are_additions : (extensible : Bool) (vs : List (Option Value)) → extensible ≡ true → length vs ≤ 64
    → some_present (options_view vs) ≡ true → AreAdditions extensible (options_view vs)
some_are_additions extensible [] e few there = tt
some_are_additions extensible (None ∷ vs) e few there = (e, omega (arith, presence_count vs), there)
some_are_additions extensible (Some v ∷ vs) e few there = (e, omega (arith, presence_count vs), there)

pub additions_are : (extensible : Bool) (vs : List (Option Value)) → (length vs == 0) ≡ false → AreAdditions extensible (options_view vs)
    → (extensible ≡ true) × (length vs ≤ 64) × (some_present (options_view vs) ≡ true)
additions_are extensible [] e h = let both : ⊥ = cc in absurd both
additions_are extensible (None ∷ vs) e h = (h.0, omega (arith, presence_count vs, h.1), h.2)
additions_are extensible (Some v ∷ vs) e h = (h.0, omega (arith, presence_count vs, h.1), h.2)

-- ---- heads
pub element_head : (old : ℕ) (known left : List Slot) (after id criticality : ℕ)
    → Ends old (passed (passed old (pad_of old)) 18)
    (λ p. asked p pad 0 ∷ asked p (ie_id known left after) id ∷ asked p (constrained fields.index 2 2) criticality ∷ [])
unfolding end_of
element_head old known left after id criticality p rest =
    ap (λ (n : ℕ). end_of n rest) (sym (passed_twice (passed old (pad_of old)) 16 2))

pub head_end : (old : ℕ) (index code criticality : ℕ)
    → Ends old (passed (passed (passed old 3) (pad_of (passed old 3))) 10) (λ p. message_head p index code criticality)
unfolding end_of
head_end old index code criticality p rest =
    let three : passed (passed old 1) 2 ≡ passed old 3 = sym (passed_twice old 1 2) in
    ap (λ (n : ℕ). end_of (passed (passed (passed n (pad_of n)) 8) 2) rest) three
    ∙ ap (λ (n : ℕ). end_of n rest) (sym (passed_twice (passed (passed old 3) (pad_of (passed old 3))) 8 2))

pub past_end : (old answer : ℕ) → Ends old (passed old 8) (λ p. asked p flag 1 ∷ asked p (small fields.index) answer ∷ [])
unfolding end_of
past_end old answer p rest = ap (λ (n : ℕ). end_of n rest) (sym (passed_twice old 1 7))
