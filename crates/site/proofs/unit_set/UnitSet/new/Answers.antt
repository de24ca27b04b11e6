use Rattle.std.proofs.Common.{◌≡◌, None, ◌∙◌}
use Rattle.gnb_types.specs.declared.names.Gnb.TheVariants.{B}
use Rattle.unit_defs.specs.CuCpRecords.{new_cu_cp}
use Rattle.cu_control.specs.Units.{ControlUnit}
use Rattle.site.proofs.Marks.{of_ok, first_records, first_work}
use Rattle.site.proofs.unit_set.UnitSet.new.Goals as goal

pub returns-clause-records : goal.returns-clause-records
returns-clause-records c =
    first_records
    (record {
      cu_cp_a = c.in_ok-cu_cp_b.cu_cp_a;
      cu_cp_b = c.in_ok-cu_cp_b.cu_cp_b;
      users = c.in_ok-users.users;
      nodes = c.in_ok-nodes.nodes;
      terminals = c.new-3.result;
    })
    (c.in_ok-cu_cp_b.ensures.kept ∙ c.in_ok-cu_cp_a.ensures)
    (of_ok (λ (u : ControlUnit). u ≡ record { kept = new_cu_cp B; stopped = None }) c.new-2.result c.in_ok-cu_cp_b.cu_cp_b c.in_ok-cu_cp_b.ensures.ok c.new-2.ensures)
    c.in_ok-users.ensures c.in_ok-nodes.ensures c.new-3.ensures

pub returns-clause-works : goal.returns-clause-works
returns-clause-works c =
    first_work
    (record {
      cu_cp_a = c.in_ok-cu_cp_b.cu_cp_a;
      cu_cp_b = c.in_ok-cu_cp_b.cu_cp_b;
      users = c.in_ok-users.users;
      nodes = c.in_ok-nodes.nodes;
      terminals = c.new-3.result;
    })
    (c.in_ok-cu_cp_b.ensures.kept ∙ c.in_ok-cu_cp_a.ensures)
    (of_ok (λ (u : ControlUnit). u ≡ record { kept = new_cu_cp B; stopped = None }) c.new-2.result c.in_ok-cu_cp_b.cu_cp_b c.in_ok-cu_cp_b.ensures.ok c.new-2.ensures)
    c.in_ok-users.ensures c.in_ok-nodes.ensures c.new-3.ensures
