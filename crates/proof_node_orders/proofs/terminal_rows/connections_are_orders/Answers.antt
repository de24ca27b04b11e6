use Rattle.proof_node_orders.proofs.terminal_rows.Radio.{connects_asked, connects_run, arrives_gives, arrives_elsewhere, arrives_at_home, returned_shows}
use Rattle.proof_node_orders.proofs.terminal_rows.connections_are_orders.Goals as goal

pub returns : goal.returns
returns c = record {
  asked = connects_asked;
  became = connects_run;
  gives = λ way u accessing. arrives_gives way u accessing;
  elsewhere = λ way u bearer s d seen accessing x. arrives_elsewhere way u bearer s d seen accessing x;
  at_home = λ way u bearer s d seen accessing. arrives_at_home way u bearer s d seen accessing;
  accepted = λ way u bearer s d seen. returned_shows way u bearer s d seen;
}
