use Rattle.proof_cu_up_orders.proofs.uplink_rows.Rows.{drops_old, passes_late, drops_late}
use Rattle.proof_cu_up_orders.proofs.uplink_rows.other_packets_are_not.Goals as goal

pub returns : goal.returns
returns c = record {
  duplicates = λ way at. drops_old way at;
  late_ones = λ way at. passes_late way at;
  old_ones = λ way at. drops_late way at;
}
