use Rattle.proof_node_orders.proofs.terminal_rows.Radio.{obeys_shows, fails_shows, comes_back_shows, says_shows, accepted_shows}
use Rattle.proof_node_orders.proofs.terminal_rows.radios_are_left.Goals as goal

pub returns : goal.returns
returns c = record {
  commands = λ way u bearer s d seen. obeys_shows way u bearer s d seen;
  failures = λ way u bearer s d seen. fails_shows way u bearer s d seen;
  returns = λ way u bearer s d seen. comes_back_shows way u bearer s d seen;
  ticks = λ way u bearer s d seen. says_shows way u bearer s d seen;
  accepted = λ way u bearer s d seen. accepted_shows way u bearer s d seen;
}
