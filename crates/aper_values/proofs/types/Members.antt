-- For users of forms: components, rows and procedures by their places.
use Rattle.std.proofs.Common.{◌≡◌, ℕ, zero, suc, ◌<◌, List, [], ◌∷◌, length, get_or, drop, refl, ap, arith}
use Rattle.asn1_syntax.specs.declared.types.definition.Component.{Component}
use Rattle.asn1_syntax.specs.declared.assignments.assignment.IeRow.{IeRow}
use Rattle.asn1_syntax.specs.declared.assignments.assignment.ProcedureRow.{ProcedureRow}
use Rattle.asn1_defs.specs.Links.{AreBelow, OptionBelow, IesBelow, ProceduresBelow}
use Rattle.aper_defs.specs.Trees.{Tree, Slot, part, row, slots, part_count}
use Rattle.aper_values.specs.types.Types.{parts_of, is_mandatory, rows_of}

module _ (n : ℕ) where
  -- one of them has a type of the module
  pub component_inside : (cs : List Component) (i : ℕ) (d : Component) → i < length cs → AreBelow n cs → (get_or cs i d).definition.number < n
  component_inside [] i d lt below = absurd (omega arith)
  component_inside (c ∷ cs) zero d lt below = below.0
  component_inside (c ∷ cs) (suc i) d lt below = component_inside cs i d (omega arith) below.1

  pub row_inside : (rows : List IeRow) (i : ℕ) (d : IeRow) → i < length rows → IesBelow n rows → (get_or rows i d).definition.number < n
  row_inside [] i d lt below = absurd (omega arith)
  row_inside (r ∷ rows) zero d lt below = below.0
  row_inside (r ∷ rows) (suc i) d lt below = row_inside rows i d (omega arith) below.1

  pub procedure_inside : (rows : List ProcedureRow) (i : ℕ) (d : ProcedureRow) → i < length rows → ProceduresBelow n rows
      → ((get_or rows i d).initiating.number < n)
      × (OptionBelow n (get_or rows i d).successful × OptionBelow n (get_or rows i d).unsuccessful)
  procedure_inside [] i d lt below = absurd (omega arith)
  procedure_inside (r ∷ rows) zero d lt below = below.0
  procedure_inside (r ∷ rows) (suc i) d lt below = procedure_inside rows i d (omega arith) below.1

  -- and so have those from a place on
  pub components_from : (cs : List Component) (i : ℕ) → AreBelow n cs → AreBelow n (drop i cs)
  components_from cs zero below = below
  components_from [] (suc i) below = tt
  components_from (c ∷ cs) (suc i) below = components_from cs i below.1

  pub rows_from : (rows : List IeRow) (i : ℕ) → IesBelow n rows → IesBelow n (drop i rows)
  rows_from rows zero below = below
  rows_from [] (suc i) below = tt
  rows_from (r ∷ rows) (suc i) below = rows_from rows i below.1

module _ (of : ℕ → Tree) where
  -- the parts from a place on begin with the one there
  pub parts_from : (cs : List Component) (i : ℕ) (d : Component) → i < length cs
      → parts_of of (drop i cs)
      ≡ part (get_or cs i d).name (get_or cs i d).optional (of (get_or cs i d).definition.number) (parts_of of (drop (suc i) cs))
  parts_from [] i d lt = absurd (omega arith)
  parts_from (c ∷ cs) zero d lt = refl
  parts_from (c ∷ cs) (suc i) d lt = parts_from cs i d (omega arith)

  pub rows_of_from : (rows : List IeRow) (i : ℕ) (d : IeRow) → i < length rows
      → rows_of of (drop i rows)
      ≡ row (get_or rows i d).id (is_mandatory (get_or rows i d).presence) (of (get_or rows i d).definition.number)
      (rows_of of (drop (suc i) rows))
  rows_of_from [] i d lt = absurd (omega arith)
  rows_of_from (r ∷ rows) zero d lt = refl
  rows_of_from (r ∷ rows) (suc i) d lt = rows_of_from rows i d (omega arith)

  -- as many parts as components
  pub part_count_is : (cs : List Component) → part_count (parts_of of cs) ≡ length cs
  part_count_is [] = refl
  part_count_is (c ∷ cs) = ap suc (part_count_is cs)

-- the order of a set doesn't depend on its types
pub slots_same : (of other : ℕ → Tree) (rows : List IeRow) → slots (rows_of of rows) ≡ slots (rows_of other rows)
slots_same of other [] = refl
slots_same of other (r ∷ rows) =
    ap (λ (ss : List Slot). (let s : Slot = record { id = r.id; mandatory = is_mandatory r.presence } in s) ∷ ss) (slots_same of other rows)
