-- What a measurement says: whether something has a property, on each way to it, and where its fields end. A way plays no part in either.
use Rattle.std.specs.Prelude.{◌≡◌, ℕ, List, ◌∷◌, ◌++◌, Option, Some, None}
use Rattle.asn1_syntax.specs.declared.types.definition.TypeId.{TypeId}
use Rattle.asn1_syntax.specs.declared.types.definition.Component.{Component}
use Rattle.asn1_syntax.specs.declared.assignments.assignment.IeRow.{IeRow}
use Rattle.aper_defs.specs.Trees.{Tree, slots}
use Rattle.aper_defs.specs.Values.{Value, each_from}
use Rattle.aper_defs.specs.Fields.{Path, Field}
use Rattle.aper_defs.specs.Fields as fields
use Rattle.aper_defs.specs.Bits.{open_fields}
use Rattle.aper_defs.specs.Layouts.{layout, raw_fields, component_fields, addition_fields, ie_fields, row_fields}
use Rattle.aper_defs.specs.Membership.{Has, HasComponents, HasAdditions, HasRow, FitsOpen, IsRaw, EachFrom, AreElements}
use Rattle.aper_values.specs.types.Types.{parts_of, rows_of}
use Rattle.aper_values.specs.declared.value.Value.{Value as CodeValue}
use Rattle.aper_values.specs.declared.value.Element.{Element}
use Rattle.aper_values.specs.Views.{values_view, options_view, ies_view}
use Rattle.aper_fields.specs.widths.Ends.{end_of, Ends}

-- none where it hasn't the property on any way
abbrev pub Measured : (Path → Type 0) → (Path → List Field) → ℕ → Option ℕ → Type 0
Measured Is fields old None = (p : Path) → Is p → ⊥
Measured Is fields old (Some new) = ((p : Path) → Is p) × Ends old new fields

-- a value of a type
abbrev pub ValueMeasured : Tree → Value → ℕ → Option ℕ → Type 0
ValueMeasured t v old result = Measured (λ p. Has p t v) (λ p. layout p t v) old result

-- an open type, on whatever way to its contents: these fields are of its contents
abbrev pub Fitted : Path → List Field → ℕ → Option ℕ → Type 0
Fitted inside contents old None = FitsOpen inside contents → ⊥
Fitted inside contents old (Some new) =
    FitsOpen inside contents × ((p : Path) (rest : List Field) → end_of old (open_fields p inside contents ++ rest) ≡ end_of new rest)

abbrev pub OpenMeasured : Tree → Value → ℕ → Option ℕ → Type 0
OpenMeasured t v old None = (inside : Path) → Has inside t v → FitsOpen inside (layout inside t v) → ⊥
OpenMeasured t v old (Some new) = ((inside : Path) → Has inside t v × FitsOpen inside (layout inside t v))
    × ((p inside : Path) (rest : List Field) → end_of old (open_fields p inside (layout inside t v) ++ rest) ≡ end_of new rest)

abbrev pub RawMeasured : Value → ℕ → Option ℕ → Type 0
RawMeasured v old None = IsRaw v → ⊥
RawMeasured v old (Some new) = IsRaw v × ((p inside : Path) (rest : List Field) → end_of old (raw_fields p inside v ++ rest) ≡ end_of new rest)

-- the one of them whose type a row gives, or raw where none does
abbrev pub InsideMeasured : (ℕ → Tree) → Option TypeId → Value → ℕ → Option ℕ → Type 0
InsideMeasured of (Some id) v old result = OpenMeasured (of id.number) v old result
InsideMeasured of None v old result = RawMeasured v old result

abbrev pub ComponentsMeasured : (ℕ → Tree) → List Component → List (Option CodeValue) → ℕ → Option ℕ → Type 0
ComponentsMeasured of parts vs old result = Measured (λ p. HasComponents p (parts_of of parts) (options_view vs))
    (λ p. component_fields p (parts_of of parts) (options_view vs)) old result

abbrev pub AdditionsMeasured : (ℕ → Tree) → List Component → List (Option CodeValue) → ℕ → Option ℕ → Type 0
AdditionsMeasured of parts vs old result = Measured (λ p. HasAdditions p (parts_of of parts) (options_view vs))
    (λ p. addition_fields p (parts_of of parts) (options_view vs)) old result

-- members, whatever the number of the first one
abbrev pub MembersMeasured : Tree → List CodeValue → ℕ → Option ℕ → Type 0
MembersMeasured t vs old result = (first : ℕ) → Measured (λ p. EachFrom (λ i v. Has (fields.member i ∷ p) t v) first (values_view vs))
    (λ p. each_from (λ i v. layout (fields.member i ∷ p) t v) first (values_view vs)) old result

-- information elements of a set, of which those of these rows may still come
abbrev pub ElementsMeasured : (ℕ → Tree) → (rows left : List IeRow) → List (Element CodeValue) → ℕ → Option ℕ → Type 0
ElementsMeasured of rows left ies old result =
    let known = slots (rows_of of rows) in
    let may_come = slots (rows_of of left) in
    Measured (λ p. AreElements known (λ id v. HasRow p (rows_of of rows) id v) may_come (ies_view ies))
    (λ p. ie_fields p known (λ id v. row_fields p (rows_of of rows) id v) may_come (ies_view ies)) old result
