-- What of a value is known to its type. Information elements that the type's sets don't have and additions that it doesn't name are left
-- out, and each criticality is the set's, reject.
use Rattle.std.specs.Prelude.{◌≡◌, ℕ, zero, suc, ◌-◌, ◌==◌, List, [], nat_lt, if◌then◌else◌}
use Rattle.aper_defs.specs.Trees.{Tree, Parts, Rows, Procedures, Outcome, Slot, slots, has_slot, part_count, sequence, choice, sequence_of, container, pdu, no_parts, part, no_rows, row, no_procedures, procedure, no_outcome, outcome}
use Rattle.aper_defs.specs.Values.{Value, Values, Options, Ies, components, chosen, list, elements, message, no_values, value, no_options, absent, present, no_ies, ie}
use Rattle.aper_defs.specs.Membership.{Has, some_present}

-- none, unless one is there
abbrev pub if_some : Options → Options
if_some more = if some_present more then more else no_options

abbrev pub each_value : (Value → Value) → Values → Values
each_value f no_values = no_values
each_value f (value v others) = value (f v) (each_value f others)

-- those of these ids
abbrev pub known_elements : List Slot → (ℕ → Value → Value) → Ies → Ies
known_elements known_slots f no_ies = no_ies
known_elements known_slots f (ie id criticality v others) = if has_slot id known_slots
    then ie id 0 (f id v) (known_elements known_slots f others)
    else known_elements known_slots f others

unfoldable mutual
  pub known : Tree → Value → Value
  known (sequence extensible root additions) (components vs more) =
      components (known_components root vs) (if_some (known_additions additions more))
  known (choice extensible root additions) (chosen i v) = chosen i
      (if nat_lt i (part_count root) then known_part root i v else known_part additions (i - part_count root) v)
  known (sequence_of size t) (list vs) = list (each_value (λ v. known t v) vs)
  known (container rows) (elements ies) = elements (known_elements (slots rows) (λ id v. known_row rows id v) ies)
  known (pdu procedures) (message index code criticality body) = message index code 0 (known_body procedures index code body)
  known t v = v

  pub known_components : Parts → Options → Options
  known_components (part name optional t others) (absent vs) = absent (known_components others vs)
  known_components (part name optional t others) (present v vs) = present (known t v) (known_components others vs)
  known_components parts vs = no_options

  -- as many as are named
  pub known_additions : Parts → Options → Options
  known_additions no_parts more = no_options
  known_additions (part name optional t others) no_options = absent (known_additions others no_options)
  known_additions (part name optional t others) (absent more) = absent (known_additions others more)
  known_additions (part name optional t others) (present v more) = present (known t v) (known_additions others more)

  pub known_part : Parts → ℕ → Value → Value
  known_part no_parts i v = v
  known_part (part name optional t others) zero v = known t v
  known_part (part name optional t others) (suc i) v = known_part others i v

  pub known_row : Rows → ℕ → Value → Value
  known_row no_rows id v = v
  known_row (row other mandatory t others) id v = if other == id then known t v else known_row others id v

  pub known_body : Procedures → ℕ → ℕ → Value → Value
  known_body no_procedures index code v = v
  known_body (procedure other initiating successful unsuccessful others) index code v = if other == code
      then (if index == 0 then known_message initiating v
      else if index == 1 then known_message successful v
      else known_message unsuccessful v)
      else known_body others index code v

  pub known_message : Outcome → Value → Value
  known_message no_outcome v = v
  known_message (outcome t) v = known t v

-- A value of a type says what this written value says: it is the same in all that its type knows.
pub record Says (t : Tree) (written v : Value) : Type 0 where
  pub has : Has [] t v
  pub is : known t v ≡ written
