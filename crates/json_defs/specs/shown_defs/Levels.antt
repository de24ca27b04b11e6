-- How many objects and lists stand one inside another, at most.
use Rattle.std.specs.Prelude.{ℕ, suc, max}
use Rattle.json_defs.specs.Named.{Named, NamedParts, NamedRows, NamedProcedures, NamedOutcome}
use Rattle.json_defs.specs.Named.{boolean, integer, enumerated, bit_string, octet_string, printable_string, sequence, choice, sequence_of, container, pdu, no_parts, part, no_rows, row, no_procedures, procedure, no_outcome, outcome}

-- how deep types stand one inside another: each SEQUENCE, CHOICE, SEQUENCE OF, ProtocolIE-Container and Protocol-PDU is a level
unfoldable mutual
  pub levels : Named → ℕ
  levels boolean = 0
  levels (integer low high extensible) = 0
  levels (enumerated root additions extensible) = 0
  levels (bit_string size) = 0
  levels (octet_string size) = 0
  levels (printable_string size) = 0
  levels (sequence extensible root additions) = suc (max (part_levels root) (part_levels additions))
  levels (choice extensible root additions) = suc (max (part_levels root) (part_levels additions))
  levels (sequence_of size t) = suc (levels t)
  levels (container rows) = suc (row_levels rows)
  levels (pdu procedures) = suc (procedure_levels procedures)

  pub part_levels : NamedParts → ℕ
  part_levels no_parts = 0
  part_levels (part name optional t others) = max (levels t) (part_levels others)

  pub row_levels : NamedRows → ℕ
  row_levels no_rows = 0
  row_levels (row id mandatory t others) = max (levels t) (row_levels others)

  pub procedure_levels : NamedProcedures → ℕ
  procedure_levels no_procedures = 0
  procedure_levels (procedure code initiating successful unsuccessful others) =
      max (max (outcome_levels initiating) (max (outcome_levels successful) (outcome_levels unsuccessful))) (procedure_levels others)

  pub outcome_levels : NamedOutcome → ℕ
  outcome_levels no_outcome = 0
  outcome_levels (outcome t) = levels t
