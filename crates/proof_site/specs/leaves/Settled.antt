-- What is so of the records of units in every run of the tables: the tables of terminals, of CU-UPs and of bearers are in the order of their
-- keys.
use Rattle.std.specs.Prelude.{◌≡◌, Some}
use Rattle.gnb_types.specs.declared.names.UeId.{UeId}
use Rattle.gnb_types.specs.Orders.{ue_cmp, node_cmp}
use Rattle.tables.specs.Tables.{IsSorted}
use Rattle.unit_defs.specs.Ue.{UeNode}
use Rattle.run_defs.specs.Units.{ue_of}
use Rattle.run_defs.specs.UnitRuns.{Records}
use Rattle.proof_site.specs.lone_units.Orders.{HasOrder, AreInOrder}

pub record AreSettled (r : Records) : Type 0 where
  pub cu_cp_a : AreInOrder r.cu_cp_a
  pub cu_cp_b : AreInOrder r.cu_cp_b
  pub ups : IsSorted node_cmp r.ups
  pub ues : IsSorted ue_cmp r.ues
  pub terminals : (ue : UeId) (u : UeNode) → ue_of r ue ≡ Some u → HasOrder u
