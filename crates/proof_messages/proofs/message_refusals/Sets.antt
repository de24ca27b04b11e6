-- Types whose sets of information elements are found by a test to leave an id unused.
use Rattle.std.proofs.Common.{◌≡◌, nat_lt, ◌&&◌, Bool, true, false, List, [], ◌∷◌, length, refl}
use Rattle.aper_defs.specs.Trees.{Tree, Parts, Rows, Procedures, Outcome, Slot, slots, has_slot, boolean, integer, enumerated, bit_string, octet_string, printable_string, sequence, choice, sequence_of, container, pdu, no_parts, part, no_rows, row, no_procedures, procedure, no_outcome, outcome}
use Rattle.aper_defs.specs.loose_defs.Sets.{AreOwnIds, IsSet, HasSets, EachSet, EachSetOfParts, EachSetOfRows, EachSetOfProcedures, EachSetOfOutcome}
use Rattle.proof_aper.proofs.answers.NumberFacts.{below, first_of_both, second_of_both}

abbrev pub negated : Bool → Bool
negated true = false
negated false = true

abbrev pub own_test : List Slot → Bool
own_test [] = true
own_test (slot ∷ others) = nat_lt slot.id 65536 && (negated (has_slot slot.id others) && own_test others)

-- The id 65,535 is no element's.
abbrev pub set_test : List Slot → Bool
set_test known = own_test known && (nat_lt (length known) 65536 && negated (has_slot 65535 known))

unfoldable mutual
  pub test : Tree → Bool
  test boolean = true
  test (integer low high extensible) = true
  test (enumerated names extensible) = true
  test (bit_string size) = true
  test (octet_string size) = true
  test (printable_string size) = true
  test (sequence extensible root additions) = parts_test root && parts_test additions
  test (choice extensible root additions) = parts_test root && parts_test additions
  test (sequence_of size t) = test t
  test (container rows) = set_test (slots rows) && rows_test rows
  test (pdu procedures) = procedures_test procedures

  pub parts_test : Parts → Bool
  parts_test no_parts = true
  parts_test (part name optional t others) = test t && parts_test others

  pub rows_test : Rows → Bool
  rows_test no_rows = true
  rows_test (row id mandatory t others) = test t && rows_test others

  pub procedures_test : Procedures → Bool
  procedures_test no_procedures = true
  procedures_test (procedure code initiating successful unsuccessful others) =
      outcome_test initiating && (outcome_test successful && (outcome_test unsuccessful && procedures_test others))

  pub outcome_test : Outcome → Bool
  outcome_test no_outcome = true
  outcome_test (outcome t) = test t

is_not : (b : Bool) → negated b ≡ true → b ≡ false
is_not true h = cc
is_not false h = refl

own_ids : (known : List Slot) → own_test known ≡ true → AreOwnIds known
own_ids [] h = tt
own_ids (slot ∷ others) h =
    let fits = nat_lt slot.id 65536 in
    let other = negated (has_slot slot.id others) in
    let rest : (other && own_test others) ≡ true = second_of_both fits (other && own_test others) h in (
      below slot.id 65536 (first_of_both fits (other && own_test others) h),
      is_not (has_slot slot.id others) (first_of_both other (own_test others) rest),
      own_ids others (second_of_both other (own_test others) rest),
    )

is_set : (known : List Slot) → set_test known ≡ true → IsSet known
is_set known h =
    let few = nat_lt (length known) 65536 in
    let free = negated (has_slot 65535 known) in
    let rest : (few && free) ≡ true = second_of_both (own_test known) (few && free) h in record {
      own = own_ids known (first_of_both (own_test known) (few && free) h);
      few = below (length known) 65536 (first_of_both few free rest);
      free = 65535;
      free_fits = below 65535 65536 refl;
      free_is = is_not (has_slot 65535 known) (second_of_both few free rest);
    }

mutual
  unfolding EachSet EachSetOfParts EachSetOfRows EachSetOfProcedures EachSetOfOutcome test parts_test rows_test procedures_test outcome_test

  pub has_sets : (t : Tree) → test t ≡ true → HasSets t
  has_sets boolean h = tt
  has_sets (integer low high extensible) h = tt
  has_sets (enumerated names extensible) h = tt
  has_sets (bit_string size) h = tt
  has_sets (octet_string size) h = tt
  has_sets (printable_string size) h = tt
  has_sets (sequence extensible root additions) h = (
    parts_have_sets root (first_of_both (parts_test root) (parts_test additions) h),
    parts_have_sets additions (second_of_both (parts_test root) (parts_test additions) h),
  )
  has_sets (choice extensible root additions) h = (
    parts_have_sets root (first_of_both (parts_test root) (parts_test additions) h),
    parts_have_sets additions (second_of_both (parts_test root) (parts_test additions) h),
  )
  has_sets (sequence_of size t) h = has_sets t h
  has_sets (container rows) h = (
    is_set (slots rows) (first_of_both (set_test (slots rows)) (rows_test rows) h),
    rows_have_sets rows (second_of_both (set_test (slots rows)) (rows_test rows) h),
  )
  has_sets (pdu procedures) h = procedures_have_sets procedures h

  parts_have_sets : (parts : Parts) → parts_test parts ≡ true → EachSetOfParts IsSet parts
  parts_have_sets no_parts h = tt
  parts_have_sets (part name optional t others) h =
      (has_sets t (first_of_both (test t) (parts_test others) h), parts_have_sets others (second_of_both (test t) (parts_test others) h))

  rows_have_sets : (rows : Rows) → rows_test rows ≡ true → EachSetOfRows IsSet rows
  rows_have_sets no_rows h = tt
  rows_have_sets (row id mandatory t others) h =
      (has_sets t (first_of_both (test t) (rows_test others) h), rows_have_sets others (second_of_both (test t) (rows_test others) h))

  procedures_have_sets : (procedures : Procedures) → procedures_test procedures ≡ true → EachSetOfProcedures IsSet procedures
  procedures_have_sets no_procedures h = tt
  procedures_have_sets (procedure code initiating successful unsuccessful others) h =
      let last = outcome_test unsuccessful && procedures_test others in
      let later = outcome_test successful && last in
      let g : later ≡ true = second_of_both (outcome_test initiating) later h in
      let k : last ≡ true = second_of_both (outcome_test successful) last g in (
        outcome_has_sets initiating (first_of_both (outcome_test initiating) later h),
        outcome_has_sets successful (first_of_both (outcome_test successful) last g),
        outcome_has_sets unsuccessful (first_of_both (outcome_test unsuccessful) (procedures_test others) k),
        procedures_have_sets others (second_of_both (outcome_test unsuccessful) (procedures_test others) k),
      )

  outcome_has_sets : (o : Outcome) → outcome_test o ≡ true → EachSetOfOutcome IsSet o
  outcome_has_sets no_outcome h = tt
  outcome_has_sets (outcome t) h = has_sets t h
