-- Bodies of information elements and messages, and alternatives, by what their rows give.
use Rattle.std.proofs.Common.{◌≡◌, ℕ, ◌<◌, ◌==◌, cond, List, [], ◌∷◌, ◌++◌, Option, Some, None, refl, sym, ap, subst, ◌∙◌, append_assoc}
use Rattle.bits_core.specs.Writing.{Written}
use Rattle.asn1_syntax.specs.declared.types.definition.TypeId.{TypeId}
use Rattle.asn1_syntax.specs.declared.assignments.assignment.IeRow.{IeRow}
use Rattle.asn1_defs.specs.Links.{OptionBelow, IesBelow}
use Rattle.aper_defs.specs.Trees.{Tree, Slot, slots_left}
use Rattle.aper_defs.specs.Values.{Value as SeenValue, ie_count}
use Rattle.aper_defs.specs.Fields.{Path, Field, asked, pad, ie_id, constrained}
use Rattle.aper_defs.specs.Fields as fields
use Rattle.aper_defs.specs.Bits.{put_all, open_fields}
use Rattle.aper_defs.specs.Layouts.{layout, raw_fields, ie_fields, row_fields}
use Rattle.aper_defs.specs.Membership.{Has, HasRow, FitsOpen, IsRaw, Either}
use Rattle.proof_aper.proofs.answers.NumberFacts.{by_cases}
use Rattle.aper_fields.specs.Following.{Follows}
use Rattle.aper_values.specs.types.Types.{rows_of}
use Rattle.aper_values.specs.declared.value.Element.{Element}
use Rattle.aper_values.specs.declared.value.Value.{Value}
use Rattle.aper_values.specs.Views.{view, ies_view}
use Rattle.aper_fields.specs.members.Membership.{FitsInside, IsInside, IsBody}
use Rattle.aper_fields.specs.members.Rows.{row_type}
use Rattle.aper_fields.specs.members.Followed.{OpenFollows, RawFollows, InsideFollows, ElementsFollow}

module _ (of : ℕ → Tree) where
  -- ---- information elements
  row_fields_known : (p : Path) (id : ℕ) (rows : List IeRow) (t : TypeId) (v : SeenValue) → row_type id rows ≡ Some t
      → row_fields p (rows_of of rows) id v ≡ open_fields p (fields.element id ∷ p) (layout (fields.element id ∷ p) (of t.number) v)
  unfolding row_type row_fields
  row_fields_known p id [] t v e = let k : ⊥ = cc in absurd k
  row_fields_known p id (row ∷ rows) t v e =
      let yes : List Field = open_fields p (fields.element id ∷ p) (layout (fields.element id ∷ p) (of row.definition.number) v) in
      let no : List Field = row_fields p (rows_of of rows) id v in
      let goal : List Field = open_fields p (fields.element id ∷ p) (layout (fields.element id ∷ p) (of t.number) v) in
      by_cases (row.id == id) (λ b. cond b (Some row.definition) (row_type id rows) ≡ Some t → cond b yes no ≡ goal)
      (λ h f. let same : row.definition ≡ t = cc in
      ap (λ (d : TypeId). open_fields p (fields.element id ∷ p) (layout (fields.element id ∷ p) (of d.number) v)) same)
      (λ h f. row_fields_known p id rows t v f) e

  row_fields_unknown : (p : Path) (id : ℕ) (rows : List IeRow) (v : SeenValue) → row_type id rows ≡ None
      → row_fields p (rows_of of rows) id v ≡ raw_fields p (fields.element id ∷ p) v
  unfolding row_type row_fields
  row_fields_unknown p id [] v e = refl
  row_fields_unknown p id (row ∷ rows) v e =
      let yes : List Field = open_fields p (fields.element id ∷ p) (layout (fields.element id ∷ p) (of row.definition.number) v) in
      let no : List Field = row_fields p (rows_of of rows) id v in
      by_cases (row.id == id) (λ b. cond b (Some row.definition) (row_type id rows) ≡ None → cond b yes no ≡ raw_fields p (fields.element id ∷ p) v)
      (λ h f. let k : ⊥ = cc in absurd k)
      (λ h f. row_fields_unknown p id rows v f) e

  body_known : (p : Path) (id : ℕ) (rows : List IeRow) (t : TypeId) (v : SeenValue) → row_type id rows ≡ Some t
      → HasRow p (rows_of of rows) id v → FitsInside (of t.number) v
  unfolding row_type HasRow
  body_known p id [] t v e h = let k : ⊥ = cc in absurd k
  body_known p id (row ∷ rows) t v e h =
      let q = fields.element id ∷ p in
      let inside : Type 0 = Has q (of row.definition.number) v × FitsOpen q (layout q (of row.definition.number) v) in
      by_cases (row.id == id) (λ b. cond b (Some row.definition) (row_type id rows) ≡ Some t → Either b inside (HasRow p (rows_of of rows) id v)
      → FitsInside (of t.number) v)
      (λ g f k. let same : row.definition ≡ t = cc in
      subst (λ (d : TypeId). FitsInside (of d.number) v) same (record { path = q; has = k.0; fits = k.1 }))
      (λ g f k. body_known p id rows t v f k) e h

  body_unknown : (p : Path) (id : ℕ) (rows : List IeRow) (v : SeenValue) → row_type id rows ≡ None
      → HasRow p (rows_of of rows) id v → IsRaw v
  unfolding row_type HasRow
  body_unknown p id [] v e h = h
  body_unknown p id (row ∷ rows) v e h =
      let q = fields.element id ∷ p in
      let inside : Type 0 = Has q (of row.definition.number) v × FitsOpen q (layout q (of row.definition.number) v) in
      by_cases (row.id == id) (λ b. cond b (Some row.definition) (row_type id rows) ≡ None → Either b inside (HasRow p (rows_of of rows) id v) → IsRaw v)
      (λ g f k. let n : ⊥ = cc in absurd n)
      (λ g f k. body_unknown p id rows v f k) e h

  pub element_known : (id : ℕ) (rows : List IeRow) (t : TypeId) (v : SeenValue) → row_type id rows ≡ Some t → IsBody (rows_of of rows) id v
      → FitsInside (of t.number) v
  element_known id rows t v e h = body_known h.path id rows t v e h.has

  pub element_unknown : (id : ℕ) (rows : List IeRow) (v : SeenValue) → row_type id rows ≡ None → IsBody (rows_of of rows) id v → IsRaw v
  element_unknown id rows v e h = body_unknown h.path id rows v e h.has

  pub row_below : (n id : ℕ) (rows : List IeRow) (t : TypeId) → IesBelow n rows → row_type id rows ≡ Some t → t.number < n
  unfolding row_type
  row_below n id [] t h e = let k : ⊥ = cc in absurd k
  row_below n id (row ∷ rows) t h e =
      by_cases (row.id == id) (λ b. cond b (Some row.definition) (row_type id rows) ≡ Some t → t.number < n)
      (λ g f. let same : row.definition ≡ t = cc in subst (λ (d : TypeId). d.number < n) same h.0)
      (λ g f. row_below n id rows t h.1 f) e

  -- the fields of the body of an element
  abbrev pub BodyFollows : List IeRow → ℕ → Written → Written → SeenValue → Type 0
  BodyFollows rows id old new v = Follows old new (λ p. row_fields p (rows_of of rows) id v)

  pub known_follows : (id : ℕ) (rows : List IeRow) (t : TypeId) (old new : Written) (v : SeenValue) → row_type id rows ≡ Some t
      → OpenFollows old new (of t.number) v → BodyFollows rows id old new v
  known_follows id rows t old new v e here p rest =
      ap (λ fs. put_all old.bits (fs ++ rest)) (row_fields_known p id rows t v e) ∙ here p (fields.element id ∷ p) rest

  pub unknown_follows : (id : ℕ) (rows : List IeRow) (old new : Written) (v : SeenValue) → row_type id rows ≡ None
      → RawFollows old new v → BodyFollows rows id old new v
  unknown_follows id rows old new v e here p rest =
      ap (λ fs. put_all old.bits (fs ++ rest)) (row_fields_unknown p id rows v e) ∙ here p (fields.element id ∷ p) rest

  -- whether a row has the id or not
  pub element_inside : (id : ℕ) (rows : List IeRow) (x : Option TypeId) (v : SeenValue) → x ≡ row_type id rows → IsBody (rows_of of rows) id v
      → IsInside of x v
  element_inside id rows None v e h = element_unknown id rows v (sym e) h
  element_inside id rows (Some t) v e h = element_known id rows t v (sym e) h

  pub body_follows : (id : ℕ) (rows : List IeRow) (x : Option TypeId) (old new : Written) (v : SeenValue) → x ≡ row_type id rows
      → InsideFollows of x old new v → BodyFollows rows id old new v
  body_follows id rows None old new v e h = unknown_follows id rows old new v (sym e) h
  body_follows id rows (Some t) old new v e h = known_follows id rows t old new v (sym e) h

  pub body_below : (n id : ℕ) (rows : List IeRow) (x : Option TypeId) → IesBelow n rows → x ≡ row_type id rows → OptionBelow n x
  body_below n id rows None h e = tt
  body_below n id rows (Some t) h e = row_below n id rows t h (sym e)

  -- one more element
  pub element_next : (rows : List IeRow) (old padded told judged mid new : Written) (e : Element Value) (ies : List (Element Value))
      → Follows old padded (λ p. asked p pad 0 ∷ [])
      → ((known left : List Slot) (after : ℕ) → Follows padded told (λ p. asked p (ie_id known left after) e.id ∷ []))
      → Follows told judged (λ p. asked p (constrained fields.index 2 2) e.criticality ∷ [])
      → BodyFollows rows e.id judged mid (view e.body) → ElementsFollow of rows mid new ies → ElementsFollow of rows old new (e ∷ ies)
  element_next rows old padded told judged mid new e ies a b c d more known left p rest =
      let others : List Field = ie_fields p known (λ id v. row_fields p (rows_of of rows) id v) (slots_left known e.id left) (ies_view ies) in
      let body : List Field = row_fields p (rows_of of rows) e.id (view e.body) in
      a p (asked p (ie_id known left (ie_count (ies_view ies))) e.id ∷ asked p (constrained fields.index 2 2) e.criticality ∷ ((body ++ others) ++ rest))
      ∙ b known left (ie_count (ies_view ies)) p (asked p (constrained fields.index 2 2) e.criticality ∷ ((body ++ others) ++ rest))
      ∙ c p ((body ++ others) ++ rest)
      ∙ ap (put_all judged.bits) (append_assoc body others rest)
      ∙ d p (others ++ rest)
      ∙ more known (slots_left known e.id left) p rest
