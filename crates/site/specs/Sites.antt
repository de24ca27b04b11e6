-- The units that a site holds, as the run sees them, and whether each of them works.
use Rattle.std.specs.Prelude.{◌≡◌, Option, Some, None}
use Rattle.gnb_types.specs.Orders.{ue_cmp, node_cmp}
use Rattle.tables.specs.Tables.{map_values}
use Rattle.unit_defs.specs.Static.{cu_cp_set_up}
use Rattle.run_defs.specs.Units.{new_units}
use Rattle.run_defs.specs.UnitRuns.{Records}
use Rattle.proof_site.specs.leaves.Settled.{AreSettled}
use Rattle.site.specs.declared.unit_set.UnitSet.{UnitSet}
use Rattle.site.specs.Each.{EachIs}
use Rattle.site.specs.site_tables.Users as users
use Rattle.site.specs.site_tables.Nodes as nodes

abbrev pub records_of : UnitSet → Records
records_of s = record {
  cu_cp_a = s.cu_cp_a.kept;
  cu_cp_b = s.cu_cp_b.kept;
  ups = map_values (λ u. u.up) s.users;
  dus = map_values (λ n. n.du) s.nodes;
  ues = map_values (λ u. u.node) s.terminals;
}

-- no unit has failed
pub record AreWorking (s : UnitSet) : Type 0 where
  pub cu_cp_a : s.cu_cp_a.stopped ≡ None
  pub cu_cp_b : s.cu_cp_b.stopped ≡ None
  pub users : EachIs node_cmp (λ u. u.failure ≡ None) s.users
  pub nodes : EachIs node_cmp (λ n. n.failure ≡ None) s.nodes
  pub terminals : EachIs ue_cmp (λ u. u.failure ≡ None) s.terminals

-- all count as set up
abbrev pub all_marked : UnitSet → UnitSet
all_marked s = record s {
  cu_cp_a = record s.cu_cp_a { kept = cu_cp_set_up s.cu_cp_a.kept };
  cu_cp_b = record s.cu_cp_b { kept = cu_cp_set_up s.cu_cp_b.kept };
  users = map_values users.as_set_up s.users;
  nodes = map_values nodes.as_set_up s.nodes;
}

-- ---- before `begin` there are none

abbrev pub records_in : Option UnitSet → Records
records_in None = new_units
records_in (Some s) = records_of s

abbrev pub AreAtWork : Option UnitSet → Type 0
AreAtWork None = ⊥
AreAtWork (Some s) = AreWorking s

-- they have begun, none has failed, and their tables are in order
abbrev pub AreReady : Option UnitSet → Type 0
AreReady units = AreAtWork units × AreSettled (records_in units)
