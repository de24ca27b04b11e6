use Rattle.proof_cu_up_orders.proofs.chain_rows.Rows.{reports_make_room, statuses_make_room}
use Rattle.proof_cu_up_orders.proofs.chain_rows.confirmations_make_room.Goals as goal

pub returns : goal.returns
returns c = record {
  reports = λ way at. reports_make_room way at;
  statuses = λ way at. statuses_make_room way at;
}
