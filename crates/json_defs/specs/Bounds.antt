-- Types within the bounds on which JSON of their values depends.
use Rattle.std.specs.Prelude.{◌≡◌, ℕ, ◌≤◌, length, Bool, true, false}
use Rattle.json_defs.specs.Named.{Named, NamedParts, NamedRows, NamedProcedures, NamedOutcome}
use Rattle.json_defs.specs.Named.{boolean, integer, enumerated, bit_string, octet_string, printable_string, sequence, choice, sequence_of, container, pdu, no_parts, part, no_rows, row, no_procedures, procedure, no_outcome, outcome}
use Rattle.json_defs.specs.Shown.{count_of}

-- how many additions a type may have: at most 64 with `...`, and none without it
abbrev pub MayAdd : Bool → ℕ → Type 0
MayAdd true count = count ≤ 64
MayAdd false count = count ≡ 0

unfoldable mutual
  pub IsBounded : Named → Type 0
  IsBounded boolean = Unit {0}
  IsBounded (integer low high extensible) = Unit {0}
  IsBounded (enumerated root additions extensible) = MayAdd extensible (length additions)
  IsBounded (bit_string size) = Unit {0}
  IsBounded (octet_string size) = Unit {0}
  IsBounded (printable_string size) = Unit {0}
  IsBounded (sequence extensible root additions) = ArePartsBounded root × ArePartsBounded additions
  IsBounded (choice extensible root additions) =
      MayAdd extensible (count_of additions) × ArePartsBounded root × ArePartsBounded additions
  IsBounded (sequence_of size t) = IsBounded t
  IsBounded (container rows) = AreRowsBounded rows
  IsBounded (pdu procedures) = AreProceduresBounded procedures

  pub ArePartsBounded : NamedParts → Type 0
  ArePartsBounded no_parts = Unit {0}
  ArePartsBounded (part name optional t others) = IsBounded t × ArePartsBounded others

  pub AreRowsBounded : NamedRows → Type 0
  AreRowsBounded no_rows = Unit {0}
  AreRowsBounded (row id mandatory t others) = IsBounded t × AreRowsBounded others

  pub AreProceduresBounded : NamedProcedures → Type 0
  AreProceduresBounded no_procedures = Unit {0}
  AreProceduresBounded (procedure code initiating successful unsuccessful others) =
      IsOutcomeBounded initiating × IsOutcomeBounded successful × IsOutcomeBounded unsuccessful × AreProceduresBounded others

  pub IsOutcomeBounded : NamedOutcome → Type 0
  IsOutcomeBounded no_outcome = Unit {0}
  IsOutcomeBounded (outcome t) = IsBounded t
