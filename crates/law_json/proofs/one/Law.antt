-- The law, by induction over types.
use Rattle.serde_json.specs.Data.{Data}
use Rattle.aper_defs.specs.Values.{Value}
use Rattle.json_defs.specs.Named.{Named, NamedParts, NamedRows, NamedProcedures, NamedOutcome, boolean, integer, enumerated, bit_string, octet_string, printable_string, sequence, choice, sequence_of, container, pdu, no_parts, part, no_rows, row, no_procedures, procedure, no_outcome, outcome}
use Rattle.json_defs.specs.Json.{Json}
use Rattle.json_defs.specs.shown_defs.Names.{IsApart, ArePartsApart, AreRowsApart, AreProceduresApart, IsOutcomeApart}
use Rattle.json_defs.specs.shown_defs.Order.{IsOrdered}
use Rattle.json_defs.specs.shown_defs.Alike.{Alike}
use Rattle.json_defs.specs.shown_defs.Printed.{shown_as}
use Rattle.law_json.proofs.one.Trees.{IsOne, boolean_one, integer_one, enumerated_one, bits_are_one, octets_are_one, text_is_one}
use Rattle.law_json.proofs.one.Inside.{AreOne, AreRowsOne, IsOutcomeOne, AreProceduresOne, choice_one, list_one, container_one, pdu_one}
use Rattle.law_json.proofs.one.Sequences.{sequence_one}

mutual
  unfolding IsApart ArePartsApart AreRowsApart AreProceduresApart IsOutcomeApart

  one : (t : Named) → IsApart t → IsOne t
  one boolean a = boolean_one
  one (integer low high extensible) a = integer_one low high extensible
  one (enumerated root additions extensible) a = enumerated_one root additions extensible
  one (bit_string size) a = bits_are_one size
  one (octet_string size) a = octets_are_one size
  one (printable_string size) a = text_is_one size
  one (sequence extensible root additions) a = sequence_one root additions (parts_one root a.1) (parts_one additions a.2) a.0 extensible
  one (choice extensible root additions) a = choice_one root additions (parts_one root a.1) (parts_one additions a.2) extensible
  one (sequence_of size t) a = list_one size t (one t a)
  one (container rows) a = container_one rows (rows_one rows a)
  one (pdu procedures) a = pdu_one procedures (procedures_one procedures a)

  parts_one : (parts : NamedParts) → ArePartsApart parts → AreOne parts
  parts_one no_parts a = tt
  parts_one (part name optional t others) a = (one t a.0, parts_one others a.1)

  rows_one : (rows : NamedRows) → AreRowsApart rows → AreRowsOne rows
  rows_one no_rows a = tt
  rows_one (row id mandatory t others) a = (one t a.0, rows_one others a.1)

  procedures_one : (rows : NamedProcedures) → AreProceduresApart rows → AreProceduresOne rows
  procedures_one no_procedures a = tt
  procedures_one (procedure code initiating successful unsuccessful others) a =
      (outcome_one initiating a.0, outcome_one successful a.1, outcome_one unsuccessful a.2, procedures_one others a.3)

  outcome_one : (o : NamedOutcome) → IsOutcomeApart o → IsOutcomeOne o
  outcome_one no_outcome a = tt
  outcome_one (outcome t) a = one t a

pub one_tree : (t : Named) (d : Data) (v : Value) → IsApart t → Json t d v → IsOrdered d → Alike d (shown_as t v)
one_tree t d v a h o = one t a d v h.0 o
