-- What a message is in the table of messages, and the sets that come from the table (TS 38.413, 9.4, and others).
use Rattle.std.specs.Prelude.{ℕ, ◌==◌, List, [], ◌∷◌, Bool, true, false, codes, if◌then◌else◌, ◌&&◌}
use Rattle.message_defs.specs.profile_defs.Forms.{Form, Components, ElementRows, ProcedureRows, OutcomeForm, sequence, container, pdu, named, no_components, component, no_elements, element, no_procedures, procedure, no_form, some_form}
use Rattle.message_defs.specs.profile_defs.Elements.{Element}

-- an information element of a message
pub record Use : Type 0 where
  pub element : Element
  pub mandatory : Bool

abbrev pub mandatory : Element → Use
mandatory e = record { element = e; mandatory = true }

abbrev pub optional : Element → Use
optional e = record { element = e; mandatory = false }

-- initiating message, successful outcome, unsuccessful outcome
abbrev pub initiating : ℕ
initiating = 0

abbrev pub successful : ℕ
successful = 1

abbrev pub unsuccessful : ℕ
unsuccessful = 2

pub record Message : Type 0 where
  pub name : List ℕ
  pub code : ℕ
  pub outcome : ℕ
  pub elements : List Use
  pub additions : Components

abbrev pub message : ℕ → ℕ → List ℕ → List Use → Message
message code outcome name elements = record { name = name; code = code; outcome = outcome; elements = elements; additions = no_components }

-- X ::= SEQUENCE {protocolIEs ProtocolIE-Container {{XIEs}}, ...}
abbrev pub element_rows : List Use → ElementRows
element_rows [] = no_elements
element_rows (u ∷ us) = element u.element.id u.mandatory u.element.form (element_rows us)

abbrev pub message_form : Message → Form
message_form m = named m.name (sequence
    (component (codes "protocolIEs") false (container (element_rows m.elements))
    no_components) m.additions)

-- the message of a procedure for an outcome
abbrev pub is_at : ℕ → ℕ → Message → Bool
is_at code outcome m = m.code == code && m.outcome == outcome

abbrev pub outcome_at : ℕ → ℕ → List Message → OutcomeForm
outcome_at code index [] = no_form
outcome_at code index (m ∷ ms) = if is_at code index m then some_form (message_form m) else outcome_at code index ms

-- a row for each initiating message, with the outcomes of its code
abbrev pub procedure_rows : List Message → List Message → ProcedureRows
procedure_rows all [] = no_procedures
procedure_rows all (m ∷ ms) = if m.outcome == initiating
    then procedure m.code (message_form m) (outcome_at m.code successful all) (outcome_at m.code unsuccessful all) (procedure_rows all ms)
    else procedure_rows all ms

abbrev pub pdu_form : List ℕ → List Message → Form
pdu_form name messages = named name (pdu (procedure_rows messages messages))
