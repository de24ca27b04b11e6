use Rattle.law_um.proofs.Steps.{received_so, ticked_so}
use Rattle.law_um.proofs.nothing_is_lost.Goals as goal

pub returns : goal.returns
returns p c = record {
  taken = λ ticks r count x sound none. (received_so ticks r count x sound none).all;
  ticked = λ ticks r sound. (ticked_so ticks r sound).all;
}
