-- Rows of a set, one more of which an element passes over.
use Rattle.std.proofs.Common.{◌≡◌, ℕ, suc, ◌+◌, ◌-◌, ◌<◌, ◌≤◌, ◌==◌, cond, Bool, true, false, List, [], ◌∷◌, length, take, drop, get_or, Option, Some, None, is_some, refl, sym, ap, subst, ◌∙◌}
use Rattle.std.proofs.lemmas.List.{drop_more, drop_all, take_rest}
use Rattle.asn1_syntax.specs.declared.assignments.assignment.IeRow.{IeRow}
use Rattle.aper_defs.specs.Trees.{Tree, Slot, slots, has_slot, slots_before, slots_after, mandatory_count}
use Rattle.aper_defs.specs.Membership.{Either}
use Rattle.proof_aper.proofs.answers.NumberFacts.{by_cases, same, is_same}
use Rattle.aper_values.specs.types.Types.{rows_of, is_mandatory}
use Rattle.aper_fields.specs.members.Rows.{row_type}
use Rattle.aper.specs.measuring.Order.{LeavesRows, LeavesKnown}

-- a set has a row of the id where a type is found
pub known_row : (of : ℕ → Tree) (id : ℕ) (rows : List IeRow) → has_slot id (slots (rows_of of rows)) ≡ is_some (row_type id rows)
unfolding row_type
known_row of id [] = refl
known_row of id (row ∷ rows) =
    by_cases (row.id == id) (λ b. cond b true (has_slot id (slots (rows_of of rows))) ≡ is_some (cond b (Some row.definition) (row_type id rows)))
    (λ e. refl) (λ e. known_row of id rows)

-- an unknown element comes anywhere
pub unknown_leaves : (known left : List Slot) (id : ℕ) → has_slot id known ≡ false → LeavesRows known id left (Some left)
unknown_leaves known left id e =
    subst (λ b. Either b ((has_slot id left ≡ true) × (mandatory_count (slots_before id left) ≡ 0)) (Unit {0})
    × (cond b (slots_after id left) left ≡ left)) (sym e) (tt, refl)

pub known_leaves : (known left : List Slot) (id : ℕ) (r : Option (List Slot)) → has_slot id known ≡ true → LeavesKnown id left r
    → LeavesRows known id left r
known_leaves known left id None e h =
    subst (λ b. Either b ((has_slot id left ≡ true) × (mandatory_count (slots_before id left) ≡ 0)) (Unit {0}) → ⊥) (sym e) (λ k. h k.0 k.1)
known_leaves known left id (Some rest) e h =
    subst (λ b. Either b ((has_slot id left ≡ true) × (mandatory_count (slots_before id left) ≡ 0)) (Unit {0})
    × (cond b (slots_after id left) left ≡ rest)) (sym e) ((h.0, h.1), h.2)

-- ---- the first of the rows that are left
pub row_found : (id : ℕ) (row : Slot) (left : List Slot) → (row.id == id) ≡ true → LeavesKnown id (row ∷ left) (Some left)
row_found id row left e = (
  ap (λ b. cond b true (has_slot id left)) e,
  ap (λ b. mandatory_count (cond b [] (row ∷ slots_before id left))) e,
  ap (λ b. cond b left (slots_after id left)) e,
)

before_count : Bool → Bool → ℕ → ℕ
before_count b mandatory n = cond b 0 (cond mandatory (suc n) n)

counted : (id : ℕ) (row : Slot) (left : List Slot)
    → mandatory_count (slots_before id (row ∷ left)) ≡ before_count (row.id == id) row.mandatory (mandatory_count (slots_before id left))
unfolding before_count
counted id row left =
    by_cases (row.id == id) (λ b. mandatory_count (cond b [] (row ∷ slots_before id left))
    ≡ cond b 0 (cond row.mandatory (suc (mandatory_count (slots_before id left))) (mandatory_count (slots_before id left))))
    (λ e. refl) (λ e. refl)

pub row_passed : (id : ℕ) (row : Slot) (left : List Slot) (r : Option (List Slot)) → (row.id == id) ≡ false → row.mandatory ≡ false
    → LeavesKnown id left r → LeavesKnown id (row ∷ left) r
unfolding before_count
row_passed id row left None e m h = λ has none. h
    (sym (ap (λ b. cond b true (has_slot id left)) e) ∙ has)
    (sym (counted id row left ∙ ap (λ b. before_count b row.mandatory (mandatory_count (slots_before id left))) e
    ∙ ap (λ b. cond b (suc (mandatory_count (slots_before id left))) (mandatory_count (slots_before id left))) m) ∙ none)
row_passed id row left (Some rest) e m h = (
  ap (λ b. cond b true (has_slot id left)) e ∙ h.0,
  counted id row left ∙ ap (λ b. before_count b row.mandatory (mandatory_count (slots_before id left))) e
      ∙ ap (λ b. cond b (suc (mandatory_count (slots_before id left))) (mandatory_count (slots_before id left))) m ∙ h.1,
  ap (λ b. cond b left (slots_after id left)) e ∙ h.2,
)

pub row_needed : (id : ℕ) (row : Slot) (left : List Slot) → (row.id == id) ≡ false → row.mandatory ≡ true → LeavesKnown id (row ∷ left) None
unfolding before_count
row_needed id row left e m has none =
    let n = mandatory_count (slots_before id left) in
    let same : suc n ≡ 0 =
    sym (counted id row left ∙ ap (λ b. before_count b row.mandatory n) e ∙ ap (λ b. cond b (suc n) n) m) ∙ none in
    let no : ⊥ = cc in no

pub no_rows_left : (id : ℕ) → LeavesKnown id [] None
no_rows_left id has none = let no : ⊥ = cc in no

-- ---- the rows from a place on
is_different : (a b : ℕ) → (a ≡ b → ⊥) → (a == b) ≡ false
is_different a b h = by_cases (a == b) (λ t. t ≡ false) (λ e. absurd (h (same a b e))) (λ e. refl)

module _ (of : ℕ → Tree) (left : List IeRow) (i id : ℕ) where
  abbrev whole : List Slot
  whole = slots (rows_of of left)

  abbrev ahead : List Slot
  ahead = slots (rows_of of (drop i left))

  next : (d : IeRow) → i < length left → drop i left ≡ get_or left i d ∷ drop (i + 1) left
  next d less = drop_more left i d less

  pub row_at : (d : IeRow) → i < length left → (get_or left i d).id ≡ id → ((r : Option (List Slot)) → LeavesKnown id ahead r → LeavesKnown id whole r)
      → LeavesKnown id whole (Some (slots (rows_of of (take (length left - (i + 1)) (drop (i + 1) left)))))
  row_at d less is all =
      let row = get_or left i d in
      let others = slots (rows_of of (drop (i + 1) left)) in
      subst (λ (rows : List IeRow). LeavesKnown id whole (Some (slots (rows_of of rows)))) (sym (take_rest left (i + 1)))
      (all (Some others) (subst (λ (rows : List IeRow). LeavesKnown id (slots (rows_of of rows)) (Some others)) (sym (next d less))
      (row_found id (record { id = row.id; mandatory = is_mandatory row.presence }) others (is_same row.id id is))))

  pub needed_at : (d : IeRow) → i < length left → ((get_or left i d).id ≡ id → ⊥) → is_mandatory (get_or left i d).presence ≡ true
      → ((r : Option (List Slot)) → LeavesKnown id ahead r → LeavesKnown id whole r) → LeavesKnown id whole None
  needed_at d less differs needed all =
      let row = get_or left i d in
      all None (subst (λ (rows : List IeRow). LeavesKnown id (slots (rows_of of rows)) None) (sym (next d less))
      (row_needed id (record { id = row.id; mandatory = is_mandatory row.presence }) (slots (rows_of of (drop (i + 1) left)))
      (is_different row.id id differs) needed))

  pub none_at : length left ≤ i → ((r : Option (List Slot)) → LeavesKnown id ahead r → LeavesKnown id whole r) → LeavesKnown id whole None
  none_at end all =
      all None (subst (λ (rows : List IeRow). LeavesKnown id (slots (rows_of of rows)) None) (sym (drop_all i left end)) (no_rows_left id))
