-- Types whose bounds are found by a test.
use Rattle.std.proofs.Common.{◌≡◌, ◌^◌, Bool, true, Option, Some, None}
use Rattle.std.specs.Prelude.{◌&&◌, nat_lt, nat_le}
use Rattle.std.specs.Int.Signed.{le_z}
use Rattle.asn1_syntax.specs.declared.types.definition.Size.{Size}
use Rattle.aper_defs.specs.Trees.{Tree, Parts, Rows, Procedures, Outcome, part_count, boolean, integer, enumerated, bit_string, octet_string, printable_string, sequence, choice, sequence_of, container, pdu, no_parts, part, no_rows, row, no_procedures, procedure, no_outcome, outcome}
use Rattle.aper_defs.specs.Numbers.{above}
use Rattle.aper_defs.specs.Bounds.{IsBounded, ArePartsBounded, AreRowsBounded, AreProceduresBounded, IsOutcomeBounded, IsSizeBounded}
use Rattle.proof_aper.proofs.answers.NumberFacts.{below, at_most, first_of_both, second_of_both}

abbrev pub size_test : Option Size → Bool
size_test None = true
size_test (Some size) = nat_le size.low size.high && nat_lt size.high 65536

unfoldable mutual
  pub test : Tree → Bool
  test boolean = true
  test (integer low high extensible) = le_z low high && nat_lt (above low high) (2 ^ 64)
  test (enumerated names extensible) = nat_le 1 names && nat_le names 256
  test (bit_string size) = size_test size
  test (octet_string size) = size_test size
  test (printable_string size) = size_test size
  test (sequence extensible root additions) = parts_test root && parts_test additions
  test (choice extensible root additions) =
      nat_le 1 (part_count root) && (nat_le (part_count root) 256 && (parts_test root && parts_test additions))
  test (sequence_of size t) = size_test size && test t
  test (container rows) = rows_test rows
  test (pdu procedures) = procedures_test procedures

  pub parts_test : Parts → Bool
  parts_test no_parts = true
  parts_test (part name optional t others) = test t && parts_test others

  pub rows_test : Rows → Bool
  rows_test no_rows = true
  rows_test (row id mandatory t others) = test t && rows_test others

  pub procedures_test : Procedures → Bool
  procedures_test no_procedures = true
  procedures_test (procedure code initiating successful unsuccessful others) =
      outcome_test initiating && (outcome_test successful && (outcome_test unsuccessful && procedures_test others))

  pub outcome_test : Outcome → Bool
  outcome_test no_outcome = true
  outcome_test (outcome t) = test t

size_bounded : (size : Option Size) → size_test size ≡ true → IsSizeBounded size
size_bounded None h = tt
size_bounded (Some size) h = (
  at_most size.low size.high (first_of_both (nat_le size.low size.high) (nat_lt size.high 65536) h),
  below size.high 65536 (second_of_both (nat_le size.low size.high) (nat_lt size.high 65536) h),
)

mutual
  unfolding IsBounded ArePartsBounded AreRowsBounded AreProceduresBounded IsOutcomeBounded test parts_test rows_test procedures_test outcome_test

  pub bounded : (t : Tree) → test t ≡ true → IsBounded t
  bounded boolean h = tt
  bounded (integer low high extensible) h = (
    first_of_both (le_z low high) (nat_lt (above low high) (2 ^ 64)) h,
    below (above low high) (2 ^ 64) (second_of_both (le_z low high) (nat_lt (above low high) (2 ^ 64)) h),
  )
  bounded (enumerated names extensible) h = (
    at_most 1 names (first_of_both (nat_le 1 names) (nat_le names 256) h),
    at_most names 256 (second_of_both (nat_le 1 names) (nat_le names 256) h),
  )
  bounded (bit_string size) h = size_bounded size h
  bounded (octet_string size) h = size_bounded size h
  bounded (printable_string size) h = size_bounded size h
  bounded (sequence extensible root additions) h = (
    parts_bounded root (first_of_both (parts_test root) (parts_test additions) h),
    parts_bounded additions (second_of_both (parts_test root) (parts_test additions) h),
  )
  bounded (choice extensible root additions) h =
      let last = parts_test root && parts_test additions in
      let later = nat_le (part_count root) 256 && last in
      let g : later ≡ true = second_of_both (nat_le 1 (part_count root)) later h in
      let k : last ≡ true = second_of_both (nat_le (part_count root) 256) last g in (
        at_most 1 (part_count root) (first_of_both (nat_le 1 (part_count root)) later h),
        at_most (part_count root) 256 (first_of_both (nat_le (part_count root) 256) last g),
        parts_bounded root (first_of_both (parts_test root) (parts_test additions) k),
        parts_bounded additions (second_of_both (parts_test root) (parts_test additions) k),
      )
  bounded (sequence_of size t) h = (size_bounded size (first_of_both (size_test size) (test t) h), bounded t (second_of_both (size_test size) (test t) h))
  bounded (container rows) h = rows_bounded rows h
  bounded (pdu procedures) h = procedures_bounded procedures h

  parts_bounded : (ps : Parts) → parts_test ps ≡ true → ArePartsBounded ps
  parts_bounded no_parts h = tt
  parts_bounded (part name optional t others) h =
      (bounded t (first_of_both (test t) (parts_test others) h), parts_bounded others (second_of_both (test t) (parts_test others) h))

  rows_bounded : (rs : Rows) → rows_test rs ≡ true → AreRowsBounded rs
  rows_bounded no_rows h = tt
  rows_bounded (row id mandatory t others) h =
      (bounded t (first_of_both (test t) (rows_test others) h), rows_bounded others (second_of_both (test t) (rows_test others) h))

  procedures_bounded : (ps : Procedures) → procedures_test ps ≡ true → AreProceduresBounded ps
  procedures_bounded no_procedures h = tt
  procedures_bounded (procedure code initiating successful unsuccessful others) h =
      let last = outcome_test unsuccessful && procedures_test others in
      let later = outcome_test successful && last in
      let g : later ≡ true = second_of_both (outcome_test initiating) later h in
      let k : last ≡ true = second_of_both (outcome_test successful) last g in (
        outcome_bounded initiating (first_of_both (outcome_test initiating) later h),
        outcome_bounded successful (first_of_both (outcome_test successful) last g),
        outcome_bounded unsuccessful (first_of_both (outcome_test unsuccessful) (procedures_test others) k),
        procedures_bounded others (second_of_both (outcome_test unsuccessful) (procedures_test others) k),
      )

  outcome_bounded : (o : Outcome) → outcome_test o ≡ true → IsOutcomeBounded o
  outcome_bounded no_outcome h = tt
  outcome_bounded (outcome t) h = bounded t h
