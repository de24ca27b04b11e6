-- Internal: how much of a value is to be read, by the tree of its type.
use Rattle.std.specs.Prelude.{ℕ, ◌+◌, ◌*◌, length, nat_lt, if◌then◌else◌}
use Rattle.asn1_syntax.specs.declared.assignments.assignment.Syntax.{Syntax}
use Rattle.aper_defs.specs.Trees.{Tree, Parts, Rows, Procedures, Outcome, boolean, integer, enumerated, bit_string, octet_string, printable_string, sequence, choice, sequence_of, container, pdu, no_parts, part, no_rows, row, no_procedures, procedure, no_outcome, outcome}
use Rattle.aper_values.specs.types.Types.{tree}

unfoldable mutual
  pub heavy : Tree → ℕ
  heavy boolean = 1
  heavy (integer low high extensible) = 1
  heavy (enumerated names extensible) = 1
  heavy (bit_string size) = 1
  heavy (octet_string size) = 1
  heavy (printable_string size) = 1
  heavy (sequence extensible root additions) = parts_heavy root + parts_heavy additions + 194
  heavy (choice extensible root additions) = parts_heavy root + parts_heavy additions + 3
  heavy (sequence_of size t) = 65535 * (2 + heavy t) + 1
  heavy (container rows) = 65535 * (4 + rows_heavy rows) + 1
  heavy (pdu procedures) = procedures_heavy procedures + 3

  pub parts_heavy : Parts → ℕ
  parts_heavy no_parts = 0
  parts_heavy (part name optional t others) = 3 + heavy t + parts_heavy others

  pub rows_heavy : Rows → ℕ
  rows_heavy no_rows = 0
  rows_heavy (row id mandatory t others) = heavy t + rows_heavy others

  pub procedures_heavy : Procedures → ℕ
  procedures_heavy no_procedures = 0
  procedures_heavy (procedure code initiating successful unsuccessful others) =
      outcome_heavy initiating + outcome_heavy successful + outcome_heavy unsuccessful + procedures_heavy others

  pub outcome_heavy : Outcome → ℕ
  outcome_heavy no_outcome = 0
  outcome_heavy (outcome t) = heavy t

-- The types of a module weigh what their trees do, and any other number as much as one likes.
unfoldable pub weighed : Syntax → ℕ → ℕ → ℕ
weighed m other id = if nat_lt id (length m.nodes) then heavy (tree m id) else other
