use Rattle.proof_cu_up_orders.proofs.uplink_rows.Rows.{uplink_ends_alone, last_uplink_ends, uplink_ends, hop_ends_alone, last_hop_ends, hop_ends}
use Rattle.proof_cu_up_orders.proofs.uplink_rows.end_markers_end.Goals as goal

pub returns : goal.returns
returns c = record {
  unfrozen = λ way at. uplink_ends_alone way at;
  last_uplink = λ way at. last_uplink_ends way at;
  other_uplinks = λ way at. uplink_ends way at;
  unfrozen_hop = λ way at. hop_ends_alone way at;
  last_hop = λ way at b hop open_ e. last_hop_ends way at b hop open_ e;
  other_hop = λ way at b hop open_ e. hop_ends way at b hop open_ e;
}
