-- How much is left to be read of an alternative, an information element and a message.
use Rattle.std.proofs.Common.{◌≡◌, ℕ, zero, suc, ◌+◌, ◌*◌, ◌<◌, ◌≤◌, ◌==◌, cond, Bool, true, false, List, [], ◌∷◌, length, get_or, Option, Some, None, ap, arith}
use Rattle.std.specs.Prelude.{slice_get}
use Rattle.std.proofs.Math.Nat.{mul-le-mul_right}
use Rattle.asn1_syntax.specs.declared.types.definition.TypeId.{TypeId}
use Rattle.asn1_syntax.specs.declared.types.definition.Component.{Component}
use Rattle.asn1_syntax.specs.declared.assignments.assignment.IeRow.{IeRow}
use Rattle.asn1_syntax.specs.declared.assignments.assignment.ProcedureRow.{ProcedureRow}
use Rattle.aper_fields.specs.members.Rows.{row_type, outcome_type, message_type}
use Rattle.aper_frames.specs.Weights.{part_weight, parts_weight, rows_weight, outcome_weight, procedures_weight, container_weight, contents_weight}

module _ (w : ℕ → ℕ) where
  -- an alternative of the root, and what additions have at a place
  pub part_at : (parts : List Component) (i : ℕ) (c : Component) → i < length parts → c ≡ get_or parts i c
      → part_weight w (Some c) ≤ parts_weight w parts
  part_at [] i c h e = absurd (omega arith)
  part_at (q ∷ parts) zero c h e = omega (arith, ap (λ (x : Component). w x.definition.number) e)
  part_at (q ∷ parts) (suc i) c h e = omega (arith, part_at parts i c (omega arith) e)

  pub part_got : (parts : List Component) (i : ℕ) (x : Option Component) → x ≡ slice_get parts i → part_weight w x ≤ parts_weight w parts
  part_got [] i x e = omega (arith, ap (part_weight w) e)
  part_got (q ∷ parts) zero x e = omega (arith, ap (part_weight w) e)
  part_got (q ∷ parts) (suc i) x e = omega (arith, part_got parts i x e)

  -- the type of an element, and of a message
  least_of : (b : Bool) (x y : Option TypeId) (n : ℕ) → outcome_weight w x ≤ n → outcome_weight w y ≤ n → outcome_weight w (cond b x y) ≤ n
  least_of true x y n h k = h
  least_of false x y n h k = k

  pub row_weighs : (id : ℕ) (rows : List IeRow) → outcome_weight w (row_type id rows) ≤ rows_weight w rows
  unfolding row_type
  row_weighs id [] = omega arith
  row_weighs id (r ∷ rows) =
      least_of (r.id == id) (Some r.definition) (row_type id rows) (w r.definition.number + rows_weight w rows)
      (omega arith) (omega (arith, row_weighs id rows))

  pub message_weighs : (index code : ℕ) (rows : List ProcedureRow) → outcome_weight w (message_type index code rows) ≤ procedures_weight w rows
  unfolding message_type
  message_weighs index code [] = omega arith
  message_weighs index code (r ∷ rows) =
      let whole : ℕ =
      w r.initiating.number + outcome_weight w r.successful + outcome_weight w r.unsuccessful + procedures_weight w rows in
      least_of (r.code == code) (outcome_type index r) (message_type index code rows) whole
      (least_of (index == 0) (Some r.initiating) (cond (index == 1) r.successful r.unsuccessful) whole (omega arith)
      (least_of (index == 1) r.successful r.unsuccessful whole (omega arith) (omega arith)))
      (omega (arith, message_weighs index code rows))

  -- around what is known, or isn't
  pub contents_weighs : (x : Option TypeId) → contents_weight w x ≤ 2 + outcome_weight w x
  contents_weighs None = omega arith
  contents_weighs (Some id) = omega arith

  -- as many elements as come, at most
  pub container_weighs : (count : ℕ) (rows : List IeRow) → count < 65536 → container_weight w count rows ≤ container_weight w 65535 rows
  container_weighs count rows h =
      let most : count * (4 + rows_weight w rows) ≤ 65535 * (4 + rows_weight w rows) = mul-le-mul_right (4 + rows_weight w rows) (omega arith) in
      omega arith
