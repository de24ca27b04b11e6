-- What is so of the records of a terminal and of a CU-CP in every run of theirs: their tables are in the order of their keys.
use Rattle.gnb_types.specs.Orders.{ue_cmp, bearer_cmp}
use Rattle.tables.specs.Tables.{IsSorted}
use Rattle.unit_defs.specs.Ue.{UeNode}
use Rattle.unit_defs.specs.CuCpRecords.{CuCpRecord}

abbrev pub HasOrder : UeNode → Type 0
HasOrder u = IsSorted bearer_cmp u.bearers

abbrev pub AreInOrder : {M C : Type 0} → CuCpRecord M C → Type 0
AreInOrder r = IsSorted ue_cmp r.terminals
