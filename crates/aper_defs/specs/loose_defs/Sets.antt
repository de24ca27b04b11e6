-- Sets of information elements whose ids are their own, have 16 bits, and aren't all that there are: so an element can always be one
-- that isn't known.
use Rattle.std.specs.Prelude.{◌≡◌, ℕ, ◌<◌, List, [], ◌∷◌, length, false}
use Rattle.aper_defs.specs.Trees.{Tree, Parts, Rows, Procedures, Outcome, Slot, slots, has_slot}
use Rattle.aper_defs.specs.Trees.{boolean, integer, enumerated, bit_string, octet_string, printable_string, sequence, choice, sequence_of, container, pdu, no_parts, part, no_rows, row, no_procedures, procedure, no_outcome, outcome}

abbrev pub AreOwnIds : List Slot → Type 0
AreOwnIds [] = Unit {0}
AreOwnIds (slot ∷ others) = (slot.id < 65536) × (has_slot slot.id others ≡ false) × AreOwnIds others

pub record IsSet (known : List Slot) : Type 0 where
  pub own : AreOwnIds known
  pub few : length known < 65536
  pub free : ℕ
  pub free_fits : free < 65536
  pub free_is : has_slot free known ≡ false

-- an id of 16 bits is no element's
pub record LeavesId (known : List Slot) : Type 0 where
  pub free : ℕ
  pub free_fits : free < 65536
  pub free_is : has_slot free known ≡ false

-- the sets of all containers in a type are so
unfoldable mutual
  pub EachSet : (List Slot → Type 0) → Tree → Type 0
  EachSet P boolean = Unit {0}
  EachSet P (integer low high extensible) = Unit {0}
  EachSet P (enumerated names extensible) = Unit {0}
  EachSet P (bit_string size) = Unit {0}
  EachSet P (octet_string size) = Unit {0}
  EachSet P (printable_string size) = Unit {0}
  EachSet P (sequence extensible root additions) = EachSetOfParts P root × EachSetOfParts P additions
  EachSet P (choice extensible root additions) = EachSetOfParts P root × EachSetOfParts P additions
  EachSet P (sequence_of size t) = EachSet P t
  EachSet P (container rows) = P (slots rows) × EachSetOfRows P rows
  EachSet P (pdu procedures) = EachSetOfProcedures P procedures

  pub EachSetOfParts : (List Slot → Type 0) → Parts → Type 0
  EachSetOfParts P no_parts = Unit {0}
  EachSetOfParts P (part name optional t others) = EachSet P t × EachSetOfParts P others

  pub EachSetOfRows : (List Slot → Type 0) → Rows → Type 0
  EachSetOfRows P no_rows = Unit {0}
  EachSetOfRows P (row id mandatory t others) = EachSet P t × EachSetOfRows P others

  pub EachSetOfProcedures : (List Slot → Type 0) → Procedures → Type 0
  EachSetOfProcedures P no_procedures = Unit {0}
  EachSetOfProcedures P (procedure code initiating successful unsuccessful others) =
      EachSetOfOutcome P initiating × EachSetOfOutcome P successful × EachSetOfOutcome P unsuccessful × EachSetOfProcedures P others

  pub EachSetOfOutcome : (List Slot → Type 0) → Outcome → Type 0
  EachSetOfOutcome P no_outcome = Unit {0}
  EachSetOfOutcome P (outcome t) = EachSet P t

abbrev pub HasSets : Tree → Type 0
HasSets t = EachSet IsSet t

-- Each set of a type leaves an id. In one of all 65,536 ids nothing could come after an element of the last one, whatever the count.
abbrev pub LeavesIds : Tree → Type 0
LeavesIds t = EachSet LeavesId t
