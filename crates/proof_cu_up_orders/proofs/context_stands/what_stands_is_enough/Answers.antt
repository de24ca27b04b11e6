use Rattle.proof_cu_up_orders.proofs.context_stands.Enough.{has_hop, has_none, serves}
use Rattle.proof_cu_up_orders.proofs.context_stands.what_stands_is_enough.Goals as goal

pub returns : goal.returns
returns c = record {
  down = λ p stands assumed. record { hop = has_hop p stands; passes = serves p stands assumed };
  up = λ p stands assumed. record { hop = has_hop p stands; passes = serves p stands assumed };
  no_hop = λ p stands f. has_none p stands f;
}
