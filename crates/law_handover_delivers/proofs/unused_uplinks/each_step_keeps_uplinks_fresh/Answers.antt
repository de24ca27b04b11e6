use Rattle.law_handover_delivers.proofs.unused_uplinks.Runs.{starts_fresh, one_step}
use Rattle.law_handover_delivers.proofs.unused_uplinks.each_step_keeps_uplinks_fresh.Goals as goal

pub returns : goal.returns
returns c = record {
  first = λ n s u first teid. starts_fresh n s u first teid;
  goes_on = λ reading n ue bearer sn quota p q. one_step reading n ue bearer sn quota p q;
}
