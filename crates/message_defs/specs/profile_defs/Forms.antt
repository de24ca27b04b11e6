-- Types as a module writes them (ITU-T X.680), in the forms that the profile has. A type that is referred to by its name stands
-- behind it.
use Rattle.std.specs.Prelude.{ℕ, List, [], length, Bool, true, false, Option, Some, ℤ}
use Rattle.asn1_syntax.specs.declared.types.definition.Size.{Size}
use Rattle.aper_defs.specs.Trees.{Tree, Parts, Rows, Procedures, Outcome}
use Rattle.aper_defs.specs.Trees as trees

mutual
  pub data Form : Type 0 where
    boolean : Form
    integer : (low high : ℤ) → Form
    -- the names of its root, and whether `...` follows
    enumerated : (names : List (List ℕ)) (extensible : Bool) → Form
    bit_string : (size : Option Size) → Form
    octet_string : (size : Option Size) → Form
    printable_string : (size : Option Size) → Form
    -- SEQUENCE {root, ..., additions}
    sequence : (root additions : Components) → Form
    -- CHOICE {alternatives, ...}
    choice : (alternatives : Components) → Form
    sequence_of : (size : Option Size) (element : Form) → Form
    -- ProtocolIE-Container and Protocol-PDU of a set with these rows
    container : (elements : ElementRows) → Form
    pdu : (procedures : ProcedureRows) → Form
    -- a type name, and what it stands for
    named : (name : List ℕ) (form : Form) → Form

  -- components, or alternatives, which are never optional
  pub data Components : Type 0 where
    no_components : Components
    component : (name : List ℕ) (optional : Bool) (form : Form) (others : Components) → Components

  -- information elements, each with criticality reject
  pub data ElementRows : Type 0 where
    no_elements : ElementRows
    element : (id : ℕ) (mandatory : Bool) (form : Form) (others : ElementRows) → ElementRows

  -- procedures, each with criticality reject
  pub data ProcedureRows : Type 0 where
    no_procedures : ProcedureRows
    procedure : (code : ℕ) (initiating : Form) (successful unsuccessful : OutcomeForm) (others : ProcedureRows) → ProcedureRows

  pub data OutcomeForm : Type 0 where
    no_form : OutcomeForm
    some_form : (form : Form) → OutcomeForm

-- a size that varies, without `...` and with it
abbrev pub sized : ℕ → ℕ → Option Size
sized low high = Some (record { low = low; high = high; extensible = false })

abbrev pub sized_extensible : ℕ → ℕ → Option Size
sized_extensible low high = Some (record { low = low; high = high; extensible = true })

-- the name of a type, which is empty for one that has none
abbrev pub name_of : Form → List ℕ
name_of (named name form) = name
name_of form = []

-- the type that a name stands for
abbrev pub meaning_of : Form → Form
meaning_of (named name form) = form
meaning_of form = form

-- The type with its names resolved.
unfoldable mutual
  pub tree : Form → Tree
  tree boolean = trees.boolean
  tree (integer low high) = trees.integer low high false
  tree (enumerated names extensible) = trees.enumerated (length names) extensible
  tree (bit_string size) = trees.bit_string size
  tree (octet_string size) = trees.octet_string size
  tree (printable_string size) = trees.printable_string size
  tree (sequence root additions) = trees.sequence true (parts root) (parts additions)
  tree (choice alternatives) = trees.choice true (parts alternatives) trees.no_parts
  tree (sequence_of size form) = trees.sequence_of size (tree form)
  tree (container elements) = trees.container (rows elements)
  tree (pdu all) = trees.pdu (procedures all)
  tree (named name form) = tree form

  pub parts : Components → Parts
  parts no_components = trees.no_parts
  parts (component name optional form others) = trees.part name optional (tree form) (parts others)

  pub rows : ElementRows → Rows
  rows no_elements = trees.no_rows
  rows (element id mandatory form others) = trees.row id mandatory (tree form) (rows others)

  pub procedures : ProcedureRows → Procedures
  procedures no_procedures = trees.no_procedures
  procedures (procedure code initiating successful unsuccessful others) =
      trees.procedure code (trees.outcome (tree initiating)) (outcome_tree successful) (outcome_tree unsuccessful) (procedures others)

  pub outcome_tree : OutcomeForm → Outcome
  outcome_tree no_form = trees.no_outcome
  outcome_tree (some_form form) = trees.outcome (tree form)
