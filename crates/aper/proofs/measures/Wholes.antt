-- Whole values that were measured, by what the calls for their parts answered.
use Rattle.std.proofs.Common.{◌≡◌, ℕ, ◌-◌, ◌^◌, ◌<◌, ◌≤◌, min, true, false, List, [], length, Option, Some, None, sym, ap, subst, ◌∙◌, arith}
use Rattle.bits_core.specs.Bits.{pad_of}
use Rattle.asn1_syntax.specs.declared.types.definition.TypeId.{TypeId}
use Rattle.asn1_syntax.specs.declared.types.definition.Size.{Size}
use Rattle.asn1_syntax.specs.declared.assignments.assignment.IeRow.{IeRow}
use Rattle.asn1_syntax.specs.declared.assignments.assignment.ProcedureRow.{ProcedureRow}
use Rattle.aper_defs.specs.Trees.{Tree, sequence_of, container, pdu}
use Rattle.aper_defs.specs.Values.{Value, list, elements, message, value_count}
use Rattle.aper_defs.specs.Fields.{Path, Field}
use Rattle.aper_defs.specs.Bits.{closed, octet_count}
use Rattle.aper_defs.specs.Parts.{count_fields}
use Rattle.aper_defs.specs.Layouts.{layout}
use Rattle.aper_defs.specs.Membership.{is_count_of}
use Rattle.aper_defs.specs.Spelling.{whole_layout}
use Rattle.aper_values.specs.types.Types.{rows_of, procedures_of}
use Rattle.aper_values.specs.declared.value.Value.{Value as CodeValue}
use Rattle.aper_values.specs.declared.value.Element.{Element}
use Rattle.aper_values.specs.Views.{values_view, ies_view}
use Rattle.aper_fields.specs.widths.Ends.{passed, end_of, Ends}
use Rattle.aper_fields.proofs.widths.EndLemmas.{ends_at}
use Rattle.aper_fields.specs.members.Rows.{message_type}
use Rattle.aper.specs.measuring.Measured.{ValueMeasured, RawMeasured, InsideMeasured, MembersMeasured, ElementsMeasured}
use Rattle.aper.proofs.measures.Turns.{list_measured, list_wrong}
use Rattle.aper.proofs.measures.Bodies.{body_measured, known_measured, past_measured}
use Rattle.aper.proofs.measures.Elements.{elements_measured}
use Rattle.aper_fields.proofs.members.Members.{values_count, elements_count}

-- a type as its form
pub measured_as : (t u : Tree) (v w : Value) (old : ℕ) (r : Option ℕ) → t ≡ u → v ≡ w → ValueMeasured u w old r → ValueMeasured t v old r
measured_as t u v w old r e f h =
    subst (λ x. ValueMeasured x v old r) (sym e) (subst (λ x. ValueMeasured u x old r) (sym f) h)

-- ---- lists
module _ (t : Tree) (size : Option Size) (vs : List CodeValue) (count : ℕ) (is : count ≡ length vs) where
  counted : value_count (values_view vs) ≡ count
  counted = values_count vs ∙ sym is

  pub list_told : (old mid : ℕ) (r : Option ℕ) → is_count_of (Some 16383) size count ≡ true → Ends old mid (λ p. count_fields p size count)
      → MembersMeasured t vs mid r → ValueMeasured (sequence_of size t) (list (values_view vs)) old r
  list_told old mid r fits ends members =
      list_measured t size vs old mid r (ap (is_count_of (Some 16383) size) counted ∙ fits)
      (subst (λ (n : ℕ). Ends old mid (λ p. count_fields p size n)) (sym counted) ends) members

  pub list_refused : (old : ℕ) → is_count_of (Some 16383) size count ≡ false
      → ValueMeasured (sequence_of size t) (list (values_view vs)) old None
  list_refused old e = list_wrong t size vs old (ap (is_count_of (Some 16383) size) counted ∙ e)

module _ (of : ℕ → Tree) where
  -- ---- containers
  pub container_told : (rows : List IeRow) (es : List (Element CodeValue)) (count old padded begun : ℕ) (r : Option ℕ) → count ≡ length es
      → count < 65536 → padded ≡ passed old (pad_of old) → begun ≡ passed padded 16 → ElementsMeasured of rows rows es begun r
      → ValueMeasured (container (rows_of of rows)) (elements (ies_view es)) old r
  container_told rows es count old padded begun r is few first second h =
      elements_measured of rows es old r (omega (arith, is, few, elements_count es))
      (subst (λ (n : ℕ). ElementsMeasured of rows rows es n r) (second ∙ ap (λ (n : ℕ). passed n 16) first) h)

  -- ---- messages
  module _ (rows : List ProcedureRow) (outcome code criticality : ℕ) (v : Value) where
    pub message_told : (old three padded head : ℕ) (x : Option TypeId) (r : Option ℕ) → outcome < 3 → code < 256 → criticality ≤ 2
        → three ≡ passed old 3 → padded ≡ passed three (pad_of three) → head ≡ passed padded 10 → x ≡ message_type outcome code rows
        → InsideMeasured of x v head r
        → ValueMeasured (pdu (procedures_of of rows)) (message outcome code criticality v) old r
    message_told old three padded head x r few octet judged a b c e h =
        let place : head ≡ passed (passed (passed old 3) (pad_of (passed old 3))) 10 =
        c ∙ ap (λ (n : ℕ). passed n 10) (b ∙ ap (λ (n : ℕ). passed n (pad_of n)) a) in
        known_measured (procedures_of of rows) outcome code criticality v old r few octet judged
        (body_measured of outcome code rows v (passed (passed (passed old 3) (pad_of (passed old 3))) 10) r
        (subst (λ (n : ℕ). InsideMeasured of (message_type outcome code rows) v n r) place
        (subst (λ (y : Option TypeId). InsideMeasured of y v head r) e h)))

    pub past_told : (old begun : ℕ) (r : Option ℕ) → 3 ≤ outcome → outcome < 67 → code ≡ 0 → criticality ≡ 0 → begun ≡ passed old 8
        → RawMeasured v begun r → ValueMeasured (pdu (procedures_of of rows)) (message outcome code criticality v) old r
    past_told old begun r many few none neither e h =
        past_measured (procedures_of of rows) outcome code criticality v old r many few none neither
        (subst (λ (n : ℕ). RawMeasured v n r) e h)

-- how many octets a whole value has, or 2^64 - 1
pub tells_length : (t : Tree) (v : Value) (end count : ℕ) → ValueMeasured t v 0 (Some end)
    → ((p : Path) (fs : List Field) → end_of 0 fs ≡ end → count ≡ min (octet_count (closed p fs)) (2 ^ 64))
    → min count (2 ^ 64 - 1) ≡ min (octet_count (whole_layout t v)) (2 ^ 64 - 1)
tells_length t v end count h counted =
    let is : count ≡ min (octet_count (whole_layout t v)) (2 ^ 64) = counted [] (layout [] t v) (ends_at 0 end (λ p. layout p t v) [] h.1) in
    least (octet_count (whole_layout t v)) count is
  where
    least : (n m : ℕ) → m ≡ min n (2 ^ 64) → min m (2 ^ 64 - 1) ≡ min n (2 ^ 64 - 1)
    least n m e = omega (arith, e)
