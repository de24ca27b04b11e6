-- Information elements that were measured.
use Rattle.std.proofs.Common.{◌≡◌, ℕ, ◌<◌, ◌≤◌, nat_lt, true, List, [], ◌∷◌, ◌++◌, Option, Some, None, refl, sym, subst, arith}
use Rattle.bits_core.specs.Bits.{pad_of}
use Rattle.asn1_syntax.specs.declared.assignments.assignment.IeRow.{IeRow}
use Rattle.aper_defs.specs.Trees.{Tree, Slot, slots, slots_left, mandatory_count, container}
use Rattle.aper_defs.specs.Values.{Ies, elements, ie_count}
use Rattle.aper_defs.specs.Fields.{Path, Field, asked, pad, ie_id, constrained}
use Rattle.aper_defs.specs.Fields as fields
use Rattle.aper_defs.specs.Layouts.{layout, row_fields, ie_fields}
use Rattle.aper_defs.specs.Membership.{Has, HasRow, AreElements, IsInOrder}
use Rattle.proof_aper.proofs.answers.NumberFacts.{below}
use Rattle.aper_values.specs.types.Types.{rows_of}
use Rattle.aper_values.specs.declared.value.Value.{Value}
use Rattle.aper_values.specs.declared.value.Element.{Element}
use Rattle.aper_values.specs.Views.{view, ies_view}
use Rattle.aper_fields.specs.widths.Ends.{passed, end_of, Ends}
use Rattle.aper_fields.proofs.widths.EndLemmas.{ends_both}
use Rattle.aper_fields.specs.members.Rows.{row_type}
use Rattle.aper.specs.measuring.Measured.{Measured, ValueMeasured, InsideMeasured, ElementsMeasured}
use Rattle.aper.specs.measuring.Order.{LeavesRows}
use Rattle.aper.proofs.measuring.HeadLemmas.{element_head}
use Rattle.aper.proofs.measures.Bodies.{row_measured}

module _ (of : ℕ → Tree) (rows : List IeRow) where
  abbrev known : List Slot
  known = slots (rows_of of rows)

  abbrev has_elements : List Slot → Ies → Path → Type 0
  has_elements left ies p = AreElements known (λ id v. HasRow p (rows_of of rows) id v) left ies

  abbrev fields_of : List Slot → Ies → Path → List Field
  fields_of left ies p = ie_fields p known (λ id v. row_fields p (rows_of of rows) id v) left ies

  pub elements_none : (left : List IeRow) (old : ℕ) → mandatory_count (slots (rows_of of left)) ≡ 0
      → ElementsMeasured of rows left [] old (Some old)
  elements_none left old e = (λ p. e, λ p rest. refl)

  pub elements_missing : (left : List IeRow) (old : ℕ) → nat_lt 0 (mandatory_count (slots (rows_of of left))) ≡ true
      → ElementsMeasured of rows left [] old None
  elements_missing left old e p h =
      let n = mandatory_count (slots (rows_of of left)) in
      let some : 0 < n = below 0 n e in absurd (omega (arith, some, h))

  module _ (left : List IeRow) (e : Element Value) (ies : List (Element Value)) where
    pub criticality_wrong : (old : ℕ) → 2 < e.criticality → ElementsMeasured of rows left (e ∷ ies) old None
    criticality_wrong old many p h = absurd (omega (arith, h.1, many))

    pub order_wrong : (old : ℕ) → LeavesRows known e.id (slots (rows_of of left)) None → ElementsMeasured of rows left (e ∷ ies) old None
    order_wrong old late p h = late h.3

    pub body_wrong : (old place : ℕ) → InsideMeasured of (row_type e.id rows) (view e.body) place None
        → ElementsMeasured of rows left (e ∷ ies) old None
    body_wrong old place h p k = row_measured of e.id rows (view e.body) place None h p k.2

    next_measured : (next : List Slot) (old mid : ℕ) (r : Option ℕ) → e.id < 65536 → e.criticality ≤ 2
        → IsInOrder known (slots (rows_of of left)) e.id → slots_left known e.id (slots (rows_of of left)) ≡ next
        → Measured (λ p. HasRow p (rows_of of rows) e.id (view e.body)) (λ p. row_fields p (rows_of of rows) e.id (view e.body))
        (passed (passed old (pad_of old)) 18) (Some mid)
        → Measured (has_elements next (ies_view ies)) (fields_of next (ies_view ies)) mid r
        → ElementsMeasured of rows left (e ∷ ies) old r
    next_measured next old mid None small few order leaves body more = λ p h.
        more p (subst (λ (ss : List Slot). has_elements ss (ies_view ies) p) leaves h.4)
    next_measured next old mid (Some new) small few order leaves body more =
        let here = slots (rows_of of left) in
        let others = slots_left known e.id here in
        let ends : Ends mid new (fields_of others (ies_view ies)) =
        subst (λ (ss : List Slot). Ends mid new (fields_of ss (ies_view ies))) (sym leaves) more.1 in (
          λ p. (small, few, body.0 p, order, subst (λ (ss : List Slot). has_elements ss (ies_view ies) p) (sym leaves) (more.0 p)),
          ends_both old (passed (passed old (pad_of old)) 18) new
              (λ q. asked q pad 0 ∷ asked q (ie_id known here (ie_count (ies_view ies))) e.id ∷ asked q (constrained fields.index 2 2) e.criticality ∷ [])
              (λ q. row_fields q (rows_of of rows) e.id (view e.body) ++ fields_of others (ies_view ies) q)
              (element_head old known here (ie_count (ies_view ies)) e.id e.criticality)
              (ends_both (passed (passed old (pad_of old)) 18) mid new (λ q. row_fields q (rows_of of rows) e.id (view e.body))
              (fields_of others (ies_view ies)) body.1 ends),
        )

    pub element_measured : (next : List IeRow) (old mid : ℕ) (r : Option ℕ) → e.id < 65536 → e.criticality ≤ 2
        → LeavesRows known e.id (slots (rows_of of left)) (Some (slots (rows_of of next)))
        → InsideMeasured of (row_type e.id rows) (view e.body) (passed (passed old (pad_of old)) 18) (Some mid)
        → ElementsMeasured of rows next ies mid r → ElementsMeasured of rows left (e ∷ ies) old r
    element_measured next old mid r small few leaves body more =
        next_measured (slots (rows_of of next)) old mid r small few leaves.0 leaves.1
        (row_measured of e.id rows (view e.body) (passed (passed old (pad_of old)) 18) (Some mid) body) more

  -- ---- a container
  pub count_wrong : (ies : Ies) (old : ℕ) → 65536 ≤ ie_count ies → ValueMeasured (container (rows_of of rows)) (elements ies) old None
  unfolding Has
  count_wrong ies old many p h = absurd (omega (arith, h.0, many))

  container_measured : (ies : Ies) (old : ℕ) (r : Option ℕ) → ie_count ies < 65536
      → Measured (has_elements known ies) (fields_of known ies) (passed (passed old (pad_of old)) 16) r
      → ValueMeasured (container (rows_of of rows)) (elements ies) old r
  unfolding Has layout end_of
  container_measured ies old None few h = λ p k. h p k.1
  container_measured ies old (Some new) few h = (λ p. (few, h.0 p), λ p rest. h.1 p rest)

  pub elements_measured : (ies : List (Element Value)) (old : ℕ) (r : Option ℕ) → ie_count (ies_view ies) < 65536
      → ElementsMeasured of rows rows ies (passed (passed old (pad_of old)) 16) r
      → ValueMeasured (container (rows_of of rows)) (elements (ies_view ies)) old r
  elements_measured ies old r few h = container_measured (ies_view ies) old r few h
