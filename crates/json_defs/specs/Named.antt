-- A type as a tree with the names that JSON shows: those of an ENUMERATED stand in it too.
use Rattle.std.specs.Prelude.{ℕ, List, Bool, length, Option, ℤ}
use Rattle.asn1_syntax.specs.declared.types.definition.Size.{Size}
use Rattle.aper_defs.specs.Trees as trees
use Rattle.aper_defs.specs.Trees.{Tree, Parts, Rows, Procedures, Outcome}

abbrev pub Name : Type 0
Name = List ℕ

mutual
  pub data Named : Type 0 where
    boolean : Named
    integer : (low high : ℤ) (extensible : Bool) → Named
    enumerated : (root additions : List Name) (extensible : Bool) → Named
    bit_string : (size : Option Size) → Named
    octet_string : (size : Option Size) → Named
    printable_string : (size : Option Size) → Named
    sequence : (extensible : Bool) (root additions : NamedParts) → Named
    choice : (extensible : Bool) (root additions : NamedParts) → Named
    sequence_of : (size : Option Size) (element : Named) → Named
    container : (rows : NamedRows) → Named
    pdu : (procedures : NamedProcedures) → Named

  pub data NamedParts : Type 0 where
    no_parts : NamedParts
    part : (name : Name) (optional : Bool) (t : Named) (others : NamedParts) → NamedParts

  pub data NamedRows : Type 0 where
    no_rows : NamedRows
    row : (id : ℕ) (mandatory : Bool) (t : Named) (others : NamedRows) → NamedRows

  pub data NamedProcedures : Type 0 where
    no_procedures : NamedProcedures
    procedure : (code : ℕ) (initiating successful unsuccessful : NamedOutcome) (others : NamedProcedures) → NamedProcedures

  pub data NamedOutcome : Type 0 where
    no_outcome : NamedOutcome
    outcome : (t : Named) → NamedOutcome

-- ---- the tree that an encoding depends on

unfoldable mutual
  pub tree_of : Named → Tree
  tree_of boolean = trees.boolean
  tree_of (integer low high extensible) = trees.integer low high extensible
  tree_of (enumerated root additions extensible) = trees.enumerated (length root) extensible
  tree_of (bit_string size) = trees.bit_string size
  tree_of (octet_string size) = trees.octet_string size
  tree_of (printable_string size) = trees.printable_string size
  tree_of (sequence extensible root additions) = trees.sequence extensible (parts_of root) (parts_of additions)
  tree_of (choice extensible root additions) = trees.choice extensible (parts_of root) (parts_of additions)
  tree_of (sequence_of size t) = trees.sequence_of size (tree_of t)
  tree_of (container rows) = trees.container (rows_of rows)
  tree_of (pdu procedures) = trees.pdu (procedures_of procedures)

  pub parts_of : NamedParts → Parts
  parts_of no_parts = trees.no_parts
  parts_of (part name optional t others) = trees.part name optional (tree_of t) (parts_of others)

  pub rows_of : NamedRows → Rows
  rows_of no_rows = trees.no_rows
  rows_of (row id mandatory t others) = trees.row id mandatory (tree_of t) (rows_of others)

  pub procedures_of : NamedProcedures → Procedures
  procedures_of no_procedures = trees.no_procedures
  procedures_of (procedure code initiating successful unsuccessful others) =
      trees.procedure code (outcome_of initiating) (outcome_of successful) (outcome_of unsuccessful) (procedures_of others)

  pub outcome_of : NamedOutcome → Outcome
  outcome_of no_outcome = trees.no_outcome
  outcome_of (outcome t) = trees.outcome (tree_of t)
