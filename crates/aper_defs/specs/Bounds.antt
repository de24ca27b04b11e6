-- Types within the bounds of the profile, as far as an encoding depends on them.
use Rattle.std.specs.Prelude.{◌≡◌, true, ◌^◌, ◌<◌, ◌≤◌, Option, Some, None}
use Rattle.std.specs.Int.Signed.{le_z}
use Rattle.asn1_syntax.specs.declared.types.definition.Size.{Size}
use Rattle.aper_defs.specs.Trees.{Tree, Parts, Rows, Procedures, Outcome, part_count, boolean, integer, enumerated, bit_string, octet_string, printable_string, sequence, choice, sequence_of, container, pdu, no_parts, part, no_rows, row, no_procedures, procedure, no_outcome, outcome}
use Rattle.aper_defs.specs.Numbers.{above}

abbrev pub IsSizeBounded : Option Size → Type 0
IsSizeBounded None = Unit {0}
IsSizeBounded (Some size) = (size.low ≤ size.high) × (size.high < 65536)

unfoldable mutual
  pub IsBounded : Tree → Type 0
  IsBounded boolean = Unit {0}
  IsBounded (integer low high extensible) = (le_z low high ≡ true) × (above low high < 2 ^ 64)
  IsBounded (enumerated names extensible) = (1 ≤ names) × (names ≤ 256)
  IsBounded (bit_string size) = IsSizeBounded size
  IsBounded (octet_string size) = IsSizeBounded size
  IsBounded (printable_string size) = IsSizeBounded size
  IsBounded (sequence extensible root additions) = ArePartsBounded root × ArePartsBounded additions
  IsBounded (choice extensible root additions) =
      (1 ≤ part_count root) × (part_count root ≤ 256) × ArePartsBounded root × ArePartsBounded additions
  IsBounded (sequence_of size t) = IsSizeBounded size × IsBounded t
  IsBounded (container rows) = AreRowsBounded rows
  IsBounded (pdu procedures) = AreProceduresBounded procedures

  pub ArePartsBounded : Parts → Type 0
  ArePartsBounded no_parts = Unit {0}
  ArePartsBounded (part name optional t others) = IsBounded t × ArePartsBounded others

  pub AreRowsBounded : Rows → Type 0
  AreRowsBounded no_rows = Unit {0}
  AreRowsBounded (row id mandatory t others) = IsBounded t × AreRowsBounded others

  pub AreProceduresBounded : Procedures → Type 0
  AreProceduresBounded no_procedures = Unit {0}
  AreProceduresBounded (procedure code initiating successful unsuccessful others) =
      IsOutcomeBounded initiating × IsOutcomeBounded successful × IsOutcomeBounded unsuccessful × AreProceduresBounded others

  pub IsOutcomeBounded : Outcome → Type 0
  IsOutcomeBounded no_outcome = Unit {0}
  IsOutcomeBounded (outcome t) = IsBounded t
