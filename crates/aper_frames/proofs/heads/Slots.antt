-- The rows of a set as its order sees them.
use Rattle.std.proofs.Common.{◌≡◌, ℕ, ◌==◌, cond, Bool, true, false, List, [], ◌∷◌, Option, None, Some, refl, sym, ap, ◌∙◌}
use Rattle.std.specs.Option.{is_some}
use Rattle.asn1_syntax.specs.declared.assignments.assignment.IeRow.{IeRow}
use Rattle.asn1_syntax.specs.declared.assignments.assignment.Presence.{Presence}
use Rattle.asn1_syntax.specs.declared.assignments.assignment.Presence.TheVariants as presences
use Rattle.aper_defs.specs.Trees.{Tree, Slot, slots, has_slot, slots_after, slots_left}
use Rattle.aper_cursor.specs.Questions.{slots_of, slot_of, is_mandatory}
use Rattle.aper_cursor.specs.Rows.{IsFound}
use Rattle.aper_values.specs.types.Types.{rows_of}
use Rattle.aper_values.specs.types.Types as types

after_row : (id : ℕ) (rows : List Slot) (b : Bool) → (has_slot id rows ≡ false → slots_after id rows ≡ [])
    → cond b true (has_slot id rows) ≡ false → cond b rows (slots_after id rows) ≡ []
after_row id rows true others h = cc
after_row id rows false others h = others h

-- no row comes after one that isn't there
pub none_after : (id : ℕ) (rows : List Slot) → has_slot id rows ≡ false → slots_after id rows ≡ []
none_after id [] h = refl
none_after id (row ∷ rows) h = after_row id rows (row.id == id) (none_after id rows) h

pub left_as : (known left : List Slot) (id : ℕ) (b : Bool) → has_slot id known ≡ b
    → slots_left known id left ≡ cond b (slots_after id left) left
left_as known left id b e = ap (λ (x : Bool). cond x (slots_after id left) left) e

is_known : (id : ℕ) (rows : List IeRow) (found : Option ℕ) → IsFound id rows found → is_some found ≡ true
    → has_slot id (slots_of rows) ≡ true
is_known id rows None h is = cc
is_known id rows (Some i) h is = h.has

-- no row may come after a known element that isn't among those that may still come
pub none_left : (known left : List IeRow) (id m n : ℕ) (found : Option ℕ) → m ≡ id → n ≡ id
    → IsFound m known found → is_some found ≡ true → has_slot n (slots_of left) ≡ false
    → [] ≡ slots_left (slots_of known) id (slots_of left)
none_left known left id m n found e f h is missing =
    sym (left_as (slots_of known) (slots_of left) id true
    (ap (λ (k : ℕ). has_slot k (slots_of known)) (sym e) ∙ is_known m known found h is)
    ∙ none_after id (slots_of left) (ap (λ (k : ℕ). has_slot k (slots_of left)) (sym f) ∙ missing))

same_presence : (x : Presence) → types.is_mandatory x ≡ is_mandatory x
same_presence presences.Mandatory = refl
same_presence presences.Optional = refl

-- the rows of a set, and those of its tree
pub slots_same : (of : ℕ → Tree) (rows : List IeRow) → slots (rows_of of rows) ≡ slots_of rows
slots_same of [] = refl
slots_same of (row ∷ rows) =
    ap (λ (m : Bool). record { id = row.id; mandatory = m } ∷ slots (rows_of of rows)) (same_presence row.presence)
    ∙ ap (λ (ss : List Slot). slot_of row ∷ ss) (slots_same of rows)
