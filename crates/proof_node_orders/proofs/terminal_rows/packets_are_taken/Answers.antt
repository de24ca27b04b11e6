use Rattle.proof_node_orders.proofs.terminal_rows.Rows.{carries_asked, carries_run, shows_new, shows_old, shows_held}
use Rattle.proof_node_orders.proofs.terminal_rows.packets_are_taken.Goals as goal

pub returns : goal.returns
returns c = record {
  asked = carries_asked;
  became = carries_run;
  new_ones = λ way u bearer s d seen. shows_new way u bearer s d seen;
  duplicates = λ way u bearer s d seen. shows_old way u bearer s d seen;
  without_room = λ way u bearer s d seen. shows_held way u bearer s d seen;
}
