-- The alternative of a CHOICE by its place.
use Rattle.std.proofs.Common.{◌≡◌, ℕ, zero, suc, ◌+◌, ◌-◌, ◌<◌, ◌≤◌, List, [], ◌∷◌, ◌++◌, length, get_or, Bool, true, false, cond, refl, sym, ap, ◌∙◌, arith}
use Rattle.std.specs.Prelude.{nat_lt}
use Rattle.serde_json.specs.Data.{Data}
use Rattle.asn1_syntax.specs.declared.types.definition.Component.{Component}
use Rattle.aper_defs.specs.Values as seen
use Rattle.json_defs.specs.Named.{Named, choice}
use Rattle.json_defs.specs.Members.{Text}
use Rattle.json_defs.specs.Shown.{count_of, names_of}
use Rattle.json_defs.specs.shown_defs.Printed.{shown_as, part_shown, one_member, past_shown, name_at}
use Rattle.json_defs.specs.type_defs.Types.{parts_with}
use Rattle.proof_json.proofs.values.Words.{is_less, is_not_less}

module _ (of : ℕ → Named) where
  parts_count : (cs : List Component) → count_of (parts_with of cs) ≡ length cs
  parts_count [] = refl
  parts_count (c ∷ cs) = ap suc (parts_count cs)

  part_at : (cs : List Component) (i : ℕ) (q : Component) (v : seen.Value) → i < length cs → q ≡ get_or cs i q
      → shown_as (of q.definition.number) v ≡ part_shown (parts_with of cs) i v
  unfolding part_shown
  part_at [] i q v lt is = absurd (omega arith)
  part_at (c ∷ cs) zero q v lt is = ap (λ (d : Component). shown_as (of d.definition.number) v) is
  part_at (c ∷ cs) (suc i) q v lt is = part_at cs i q v (omega arith) is

  name_front : (cs ds : List Component) (i : ℕ) (q : Component) → i < length cs → q ≡ get_or cs i q
      → q.name ≡ name_at (names_of (parts_with of cs) ++ names_of (parts_with of ds)) i
  name_front [] ds i q lt is = absurd (omega arith)
  name_front (c ∷ cs) ds zero q lt is = ap (λ (d : Component). d.name) is
  name_front (c ∷ cs) ds (suc i) q lt is = name_front cs ds i q (omega arith) is

  name_in : (ds : List Component) (i : ℕ) (q : Component) → i < length ds → q ≡ get_or ds i q
      → q.name ≡ name_at (names_of (parts_with of ds)) i
  name_in [] i q lt is = absurd (omega arith)
  name_in (d ∷ ds) zero q lt is = ap (λ (e : Component). e.name) is
  name_in (d ∷ ds) (suc i) q lt is = name_in ds i q (omega arith) is

  name_rest : (cs ds : List Component) (i j : ℕ) (q : Component) → i ≡ length cs + j → j < length ds → q ≡ get_or ds j q
      → q.name ≡ name_at (names_of (parts_with of cs) ++ names_of (parts_with of ds)) i
  name_rest [] ds i j q e lt is = name_in ds j q lt is ∙ ap (name_at (names_of (parts_with of ds))) (let f : j ≡ i = omega (arith, e) in f)
  name_rest (c ∷ cs) ds zero j q e lt is = absurd (omega (arith, e))
  name_rest (c ∷ cs) ds (suc i) j q e lt is = name_rest cs ds i j q (omega (arith, e)) lt is

  -- what a choice is printed as, by two tests of the place
  abbrev printed : List Component → List Component → ℕ → seen.Value → Bool → Bool → Data
  printed root additions i v known first = cond known (one_member (name_at (names_of (parts_with of root) ++ names_of (parts_with of additions)) i)
      (cond first (part_shown (parts_with of root) i v) (part_shown (parts_with of additions) (i - count_of (parts_with of root)) v)))
      (past_shown (i - (count_of (parts_with of root) + count_of (parts_with of additions))) v)

  is_printed : (e : Bool) (root additions : List Component) (i : ℕ) (v : seen.Value)
      → shown_as (choice e (parts_with of root) (parts_with of additions)) (seen.chosen i v)
      ≡ printed root additions i v (nat_lt i (count_of (parts_with of root) + count_of (parts_with of additions)))
      (nat_lt i (count_of (parts_with of root)))
  unfolding shown_as
  is_printed e root additions i v = refl

  pub root_printed : (e : Bool) (root additions : List Component) (i : ℕ) (q : Component) (v : seen.Value) → i < length root
      → q ≡ get_or root i q
      → one_member q.name (shown_as (of q.definition.number) v)
      ≡ shown_as (choice e (parts_with of root) (parts_with of additions)) (seen.chosen i v)
  root_printed e root additions i q v lt is =
      let a = parts_count root in
      let b = parts_count additions in
      let known : nat_lt i (count_of (parts_with of root) + count_of (parts_with of additions)) ≡ true = is_less _ _ (omega (arith, a, b, lt)) in
      let first : nat_lt i (count_of (parts_with of root)) ≡ true = is_less _ _ (omega (arith, a, lt)) in
      ap (λ (n : Text). one_member n (shown_as (of q.definition.number) v)) (name_front root additions i q lt is)
      ∙ ap (one_member (name_at (names_of (parts_with of root) ++ names_of (parts_with of additions)) i)) (part_at root i q v lt is)
      ∙ ap (λ (x : Bool). printed root additions i v true x) (sym first)
      ∙ ap (λ (x : Bool). printed root additions i v x (nat_lt i (count_of (parts_with of root)))) (sym known)
      ∙ sym (is_printed e root additions i v)

  pub addition_printed : (e : Bool) (root additions : List Component) (i : ℕ) (q : Component) (v : seen.Value) → length root ≤ i
      → i - length root < length additions → q ≡ get_or additions (i - length root) q
      → one_member q.name (shown_as (of q.definition.number) v)
      ≡ shown_as (choice e (parts_with of root) (parts_with of additions)) (seen.chosen i v)
  addition_printed e root additions i q v most lt is =
      let a = parts_count root in
      let b = parts_count additions in
      let known : nat_lt i (count_of (parts_with of root) + count_of (parts_with of additions)) ≡ true = is_less _ _ (omega (arith, a, b, lt, most)) in
      let first : nat_lt i (count_of (parts_with of root)) ≡ false = is_not_less _ _ (omega (arith, a, most)) in
      let whole : i ≡ length root + (i - length root) = omega (arith, most) in
      ap (λ (n : Text). one_member n (shown_as (of q.definition.number) v)) (name_rest root additions i (i - length root) q whole lt is)
      ∙ ap (one_member (name_at (names_of (parts_with of root) ++ names_of (parts_with of additions)) i))
      (part_at additions (i - length root) q v lt is ∙ ap (λ (n : ℕ). part_shown (parts_with of additions) (i - n) v) (sym a))
      ∙ ap (λ (x : Bool). printed root additions i v true x) (sym first)
      ∙ ap (λ (x : Bool). printed root additions i v x (nat_lt i (count_of (parts_with of root)))) (sym known)
      ∙ sym (is_printed e root additions i v)

  pub past_printed : (e : Bool) (root additions : List Component) (i : ℕ) (v : seen.Value) → length root ≤ i
      → length additions ≤ i - length root
      → past_shown (i - length root - length additions) v
      ≡ shown_as (choice e (parts_with of root) (parts_with of additions)) (seen.chosen i v)
  past_printed e root additions i v most past =
      let a = parts_count root in
      let b = parts_count additions in
      let known : nat_lt i (count_of (parts_with of root) + count_of (parts_with of additions)) ≡ false = is_not_less _ _ (omega (arith, a, b, most, past)) in
      let far : i - length root - length additions ≡ i - (count_of (parts_with of root) + count_of (parts_with of additions)) = omega (arith, a, b, most, past) in
      ap (λ (n : ℕ). past_shown n v) far
      ∙ ap (λ (x : Bool). printed root additions i v x (nat_lt i (count_of (parts_with of root)))) (sym known)
      ∙ sym (is_printed e root additions i v)
