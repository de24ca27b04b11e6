use Rattle.law_guards.proofs.Steps.{cu_up_step, offer_step, message_step}
use Rattle.law_guards.proofs.nothing_else_is_assumed.Goals as goal

pub returns : goal.returns
returns c = record {
  cu_up = λ reading n ue bearer sn quota p q. cu_up_step reading n ue bearer sn quota p q;
  offer = λ reading n ue bearer sn quota p q. offer_step reading n ue bearer sn quota p q;
  message = λ reading n ue bearer sn quota p q. message_step reading n ue bearer sn quota p q;
}
