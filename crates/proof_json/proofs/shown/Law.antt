-- The laws, by induction over types.
use Rattle.std.proofs.Common.{◌≡◌, None, [], sym}
use Rattle.aper_defs.specs.Values.{Value}
use Rattle.aper_defs.specs.Membership.{Has}
use Rattle.json_defs.specs.Named.{Named, NamedParts, NamedRows, NamedProcedures, NamedOutcome, tree_of, boolean, integer, enumerated, bit_string, octet_string, printable_string, sequence, choice, sequence_of, container, pdu, no_parts, part, no_rows, row, no_procedures, procedure, no_outcome, outcome}
use Rattle.json_defs.specs.Bounds.{IsBounded}
use Rattle.json_defs.specs.Json.{Json}
use Rattle.json_defs.specs.Readings.{value_of}
use Rattle.json_defs.specs.Demands.{demands, first_fault}
use Rattle.proof_json.proofs.lawful.Law.{exact}
use Rattle.json_defs.specs.shown_defs.Names.{IsApart, ArePartsApart, AreRowsApart, AreProceduresApart, IsOutcomeApart}
use Rattle.json_defs.specs.shown_defs.Printed.{shown_as}
use Rattle.proof_json.proofs.shown.Words.{IsSound, boolean_read, integer_read, enumerated_read, bits_shown, octets_shown, text_shown}
use Rattle.proof_json.proofs.shown.Sequences.{AreSound, sequence_read}
use Rattle.proof_json.proofs.shown.Choices.{AreRowsSound, IsOutcomeSound, AreProceduresSound, choice_read, list_read, container_read, pdu_read}

mutual
  unfolding IsApart ArePartsApart AreRowsApart AreProceduresApart IsOutcomeApart

  sound : (t : Named) → IsApart t → IsSound t
  sound boolean a = boolean_read
  sound (integer low high extensible) a = integer_read low high extensible
  sound (enumerated root additions extensible) a = enumerated_read root additions extensible a
  sound (bit_string size) a = bits_shown size
  sound (octet_string size) a = octets_shown size
  sound (printable_string size) a = text_shown size
  sound (sequence extensible root additions) a =
      sequence_read root additions (parts_sound root a.1) (parts_sound additions a.2) a.0 extensible
  sound (choice extensible root additions) a =
      choice_read root additions (parts_sound root a.1) (parts_sound additions a.2) a.0 extensible
  sound (sequence_of size t) a = list_read size t (sound t a)
  sound (container rows) a = container_read rows (rows_sound rows a)
  sound (pdu procedures) a = pdu_read procedures (procedures_sound procedures a)

  parts_sound : (parts : NamedParts) → ArePartsApart parts → AreSound parts
  parts_sound no_parts a = tt
  parts_sound (part name optional t others) a = (sound t a.0, parts_sound others a.1)

  rows_sound : (rows : NamedRows) → AreRowsApart rows → AreRowsSound rows
  rows_sound no_rows a = tt
  rows_sound (row id mandatory t others) a = (sound t a.0, rows_sound others a.1)

  procedures_sound : (rows : NamedProcedures) → AreProceduresApart rows → AreProceduresSound rows
  procedures_sound no_procedures a = tt
  procedures_sound (procedure code initiating successful unsuccessful others) a =
      (outcome_sound initiating a.0, outcome_sound successful a.1, outcome_sound unsuccessful a.2, procedures_sound others a.3)

  outcome_sound : (o : NamedOutcome) → IsOutcomeApart o → IsOutcomeSound o
  outcome_sound no_outcome a = tt
  outcome_sound (outcome t) a = sound t a

-- ---- the laws
pub printed_is : (t : Named) (v : Value) → IsApart t → Has [] (tree_of t) v → Json t (shown_as t v) v
printed_is t v a h = (sound t a [] v h, h)

pub read_again : (t : Named) (v : Value) → IsApart t → IsBounded t → Has [] (tree_of t) v
    → (first_fault (demands [] t (shown_as t v)) ≡ None) × (value_of t (shown_as t v) ≡ v)
read_again t v a b h =
    let read = (exact t (shown_as t v) v b).0 (printed_is t v a h) in
    (read.0, sym read.1)
