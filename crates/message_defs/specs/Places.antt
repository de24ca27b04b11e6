-- The fields of a message at their places: which information elements they are, and in which order, is told by the profile's table alone.
use Rattle.std.specs.Prelude.{◌==◌, List, [], ◌∷◌, Option, Some, None, option_map, if◌then◌else◌}
use Rattle.aper_defs.specs.Values.{Value, Options, Ies, raw, components, elements, message, no_options, present, no_ies, ie}
use Rattle.message_defs.specs.profile_defs.Elements.{Element}
use Rattle.message_defs.specs.profile_defs.Tables.{Use, Message}

-- ---- writing: a message's fields, in any order
pub record Field : Type 0 where
  pub element : Element
  pub content : Option Value

abbrev pub has : Element → Value → Field
has e v = record { element = e; content = Some v }

abbrev pub may_have : {A : Type 0} → Element → (A → Value) → Option A → Field
may_have e f x = record { element = e; content = option_map f x }

abbrev pub content_of : Element → List Field → Option Value
content_of e [] = None
content_of e (field ∷ fields) = if field.element.id == e.id then field.content else content_of e fields

-- an information element with criticality reject, where there is one
abbrev pub put_element : Element → Option Value → Ies → Ies
put_element e None others = others
put_element e (Some v) others = ie e.id 0 v others

abbrev pub written_elements : List Use → List Field → Ies
written_elements [] fields = no_ies
written_elements (u ∷ us) fields = put_element u.element (content_of u.element fields) (written_elements us fields)

-- X ::= SEQUENCE {protocolIEs ProtocolIE-Container {{XIEs}}, ...} at its place in its PDU
abbrev pub written_message : Message → List Field → Options → Value
written_message m fields additions =
    message m.outcome m.code 0 (components (present (elements (written_elements m.elements fields)) no_options) additions)

-- ---- reading: the element of a message
abbrev pub element_of : Element → Ies → Option Value
element_of e no_ies = None
element_of e (ie id criticality v others) = if id == e.id then Some v else element_of e others

abbrev pub or_empty : Option Value → Value
or_empty None = raw []
or_empty (Some v) = v

-- a mandatory one
abbrev pub the : {A : Type 0} → Element → (Value → A) → Ies → A
the e f ies = f (or_empty (element_of e ies))

-- an optional one
abbrev pub any : {A : Type 0} → Element → (Value → A) → Ies → Option A
any e f ies = option_map f (element_of e ies)

-- the information elements and the additions of a body
abbrev pub elements_in : Value → Ies
elements_in (components (present (elements ies) vs) more) = ies
elements_in v = no_ies

abbrev pub additions_in : Value → Options
additions_in (components vs more) = more
additions_in v = no_options
