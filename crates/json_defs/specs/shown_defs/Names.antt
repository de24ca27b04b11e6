-- Types whose names can be told apart in JSON: those of one ENUMERATED differ, and so do the keys of one object, of which `...` is one.
use Rattle.std.specs.Prelude.{List, ◌∷◌, ◌++◌}
use Rattle.std.specs.List.{IsDistinct}
use Rattle.json_defs.specs.Named.{Named, NamedParts, NamedRows, NamedProcedures, NamedOutcome}
use Rattle.json_defs.specs.Named.{boolean, integer, enumerated, bit_string, octet_string, printable_string, sequence, choice, sequence_of, container, pdu, no_parts, part, no_rows, row, no_procedures, procedure, no_outcome, outcome}
use Rattle.json_defs.specs.Members.{Text, same_text, dots}
use Rattle.json_defs.specs.Shown.{names_of}

-- names that differ, none of them `...`
abbrev pub AreKeys : List Text → Type 0
AreKeys names = IsDistinct same_text (dots ∷ names)

unfoldable mutual
  pub IsApart : Named → Type 0
  IsApart boolean = Unit {0}
  IsApart (integer low high extensible) = Unit {0}
  IsApart (enumerated root additions extensible) = IsDistinct same_text (root ++ additions)
  IsApart (bit_string size) = Unit {0}
  IsApart (octet_string size) = Unit {0}
  IsApart (printable_string size) = Unit {0}
  IsApart (sequence extensible root additions) = AreKeys (names_of root) × ArePartsApart root × ArePartsApart additions
  IsApart (choice extensible root additions) =
      AreKeys (names_of root ++ names_of additions) × ArePartsApart root × ArePartsApart additions
  IsApart (sequence_of size t) = IsApart t
  IsApart (container rows) = AreRowsApart rows
  IsApart (pdu procedures) = AreProceduresApart procedures

  pub ArePartsApart : NamedParts → Type 0
  ArePartsApart no_parts = Unit {0}
  ArePartsApart (part name optional t others) = IsApart t × ArePartsApart others

  pub AreRowsApart : NamedRows → Type 0
  AreRowsApart no_rows = Unit {0}
  AreRowsApart (row id mandatory t others) = IsApart t × AreRowsApart others

  pub AreProceduresApart : NamedProcedures → Type 0
  AreProceduresApart no_procedures = Unit {0}
  AreProceduresApart (procedure code initiating successful unsuccessful others) =
      IsOutcomeApart initiating × IsOutcomeApart successful × IsOutcomeApart unsuccessful × AreProceduresApart others

  pub IsOutcomeApart : NamedOutcome → Type 0
  IsOutcomeApart no_outcome = Unit {0}
  IsOutcomeApart (outcome t) = IsApart t
