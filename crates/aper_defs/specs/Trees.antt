-- A type as a tree: names are resolved, and what a set holds stands in the tree (X.680, clause 17; X.681 and X.682 for the two
-- parameterised types).
use Rattle.std.specs.Prelude.{ℕ, suc, ◌==◌, List, [], ◌∷◌, Bool, true, false, Option, if◌then◌else◌, ℤ}
use Rattle.asn1_syntax.specs.declared.types.definition.Size.{Size}

mutual
  pub data Tree : Type 0 where
    boolean : Tree
    integer : (low high : ℤ) (extensible : Bool) → Tree
    -- so many names in its root
    enumerated : (names : ℕ) (extensible : Bool) → Tree
    bit_string : (size : Option Size) → Tree
    octet_string : (size : Option Size) → Tree
    printable_string : (size : Option Size) → Tree
    sequence : (extensible : Bool) (root additions : Parts) → Tree
    choice : (extensible : Bool) (root additions : Parts) → Tree
    sequence_of : (size : Option Size) (element : Tree) → Tree
    -- ProtocolIE-Container and Protocol-PDU of these sets
    container : (rows : Rows) → Tree
    pdu : (procedures : Procedures) → Tree

  -- components of a SEQUENCE, or alternatives of a CHOICE
  pub data Parts : Type 0 where
    no_parts : Parts
    part : (name : List ℕ) (optional : Bool) (t : Tree) (others : Parts) → Parts

  -- the information elements of a set, in its order
  pub data Rows : Type 0 where
    no_rows : Rows
    row : (id : ℕ) (mandatory : Bool) (t : Tree) (others : Rows) → Rows

  -- the procedures of a set
  pub data Procedures : Type 0 where
    no_procedures : Procedures
    procedure : (code : ℕ) (initiating successful unsuccessful : Outcome) (others : Procedures) → Procedures

  -- a message of a procedure, which may lack one for an outcome
  pub data Outcome : Type 0 where
    no_outcome : Outcome
    outcome : (t : Tree) → Outcome

abbrev pub part_count : Parts → ℕ
part_count no_parts = 0
part_count (part name optional t others) = suc (part_count others)

-- An information element as its order sees it: its id, and whether it is mandatory.
pub record Slot : Type 0 where
  pub id : ℕ
  pub mandatory : Bool

abbrev pub slots : Rows → List Slot
slots no_rows = []
slots (row id mandatory t others) = record { id = id; mandatory = mandatory } ∷ slots others

abbrev pub has_slot : ℕ → List Slot → Bool
has_slot id [] = false
has_slot id (slot ∷ others) = if slot.id == id then true else has_slot id others

-- how many of these are mandatory
abbrev pub mandatory_count : List Slot → ℕ
mandatory_count [] = 0
mandatory_count (slot ∷ others) = if slot.mandatory then suc (mandatory_count others) else mandatory_count others

-- those before the one of an id, and those after it
abbrev pub slots_before : ℕ → List Slot → List Slot
slots_before id [] = []
slots_before id (slot ∷ others) = if slot.id == id then [] else slot ∷ slots_before id others

abbrev pub slots_after : ℕ → List Slot → List Slot
slots_after id [] = []
slots_after id (slot ∷ others) = if slot.id == id then others else slots_after id others

-- those that may still come after an element of this id: after an unknown one all the same
abbrev pub slots_left : List Slot → ℕ → List Slot → List Slot
slots_left known id left = if has_slot id known then slots_after id left else left
