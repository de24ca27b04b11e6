-- What was put for a value.
use Rattle.std.specs.Prelude.{◌≡◌, ℕ, ◌-◌, List, ◌∷◌, ◌++◌, Option, Some, None}
use Rattle.asn1_syntax.specs.declared.types.definition.TypeId.{TypeId}
use Rattle.bits_core.specs.Writing.{Written}
use Rattle.asn1_syntax.specs.declared.types.definition.Component.{Component}
use Rattle.asn1_syntax.specs.declared.assignments.assignment.IeRow.{IeRow}
use Rattle.aper_defs.specs.Trees.{Tree, Slot}
use Rattle.aper_defs.specs.Values.{Value as SeenValue, each_from}
use Rattle.aper_defs.specs.Fields.{Path, Field, asked, flag, small}
use Rattle.aper_defs.specs.Fields as fields
use Rattle.aper_defs.specs.Bits.{put_all, open_fields}
use Rattle.aper_defs.specs.Layouts.{layout, raw_fields, component_fields, addition_fields, ie_fields, row_fields}
use Rattle.aper_fields.specs.Following.{Follows}
use Rattle.aper_values.specs.types.Types.{parts_of, rows_of}
use Rattle.aper_values.specs.declared.value.Value.{Value}
use Rattle.aper_values.specs.declared.value.Element.{Element}
use Rattle.aper_values.specs.Views.{values_view, options_view, ies_view}

abbrev pub ValueFollows : Written → Written → Tree → SeenValue → Type 0
ValueFollows old new t v = Follows old new (λ p. layout p t v)

-- an open type, on whatever way to its contents
abbrev pub OpenFollows : Written → Written → Tree → SeenValue → Type 0
OpenFollows old new t v = (p inside : Path) (rest : List Field)
    → put_all old.bits (open_fields p inside (layout inside t v) ++ rest) ≡ put_all new.bits rest

abbrev pub RawFollows : Written → Written → SeenValue → Type 0
RawFollows old new v = (p inside : Path) (rest : List Field) → put_all old.bits (raw_fields p inside v ++ rest) ≡ put_all new.bits rest

-- the one of them whose type a row gives, or raw where none does
abbrev pub InsideFollows : (ℕ → Tree) → Option TypeId → Written → Written → SeenValue → Type 0
InsideFollows of (Some id) old new v = OpenFollows old new (of id.number) v
InsideFollows of None old new v = RawFollows old new v

-- a message past the outcomes that are known
abbrev pub past_fields : Path → ℕ → SeenValue → List Field
past_fields p index body = asked p flag 1 ∷ asked p (small fields.index) (index - 3) ∷ raw_fields p p body

abbrev pub ComponentsFollow : (ℕ → Tree) → Written → Written → List Component → List (Option Value) → Type 0
ComponentsFollow of old new parts vs = Follows old new (λ p. component_fields p (parts_of of parts) (options_view vs))

abbrev pub AdditionsFollow : (ℕ → Tree) → Written → Written → List Component → List (Option Value) → Type 0
AdditionsFollow of old new parts vs = Follows old new (λ p. addition_fields p (parts_of of parts) (options_view vs))

-- members, whatever the number of the first one
abbrev pub MembersFollow : Tree → Written → Written → List Value → Type 0
MembersFollow t old new vs = (first : ℕ) → Follows old new (λ p. each_from (λ i v. layout (fields.member i ∷ p) t v) first (values_view vs))

-- information elements, whichever may come
abbrev pub ElementsFollow : (ℕ → Tree) → List IeRow → Written → Written → List (Element Value) → Type 0
ElementsFollow of rows old new ies = (known left : List Slot)
    → Follows old new (λ p. ie_fields p known (λ id v. row_fields p (rows_of of rows) id v) left (ies_view ies))
