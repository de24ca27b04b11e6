use Rattle.proof_node_orders.proofs.terminal_refusals.Refusals.{no_command, no_arrival, no_home, no_return, not_accepted, no_failure, too_large, too_many, unknown_taken, unknown_confirmed, unknown_offered, tunnels_unexpected, own_unexpected, its_own_unexpected}
use Rattle.proof_node_orders.proofs.terminal_refusals.refusals_change_nothing.Goals as goal

pub returns : goal.returns
returns c = record {
  commands = λ way u. no_command way u;
  arrivals = λ way u. no_arrival way u;
  homeless = λ way u. no_home way u;
  returns = λ way u. no_return way u;
  accepted = λ way u. not_accepted way u;
  failures = λ way u. no_failure way u;
  large = λ way u bearer. too_large way u bearer;
  full = λ way u bearer. too_many way u bearer;
  unknown = λ way u bearer is. unknown_taken way u bearer is;
  unknown_confirmed = λ way u bearer is. unknown_confirmed way u bearer is;
  unknown_offered = λ way u bearer is. unknown_offered way u bearer is;
  tunnels = λ way u. tunnels_unexpected way u;
  own = λ way u. own_unexpected way u;
  its_own = λ way u. its_own_unexpected way u;
}
