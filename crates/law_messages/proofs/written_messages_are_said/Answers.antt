use Rattle.law_messages.proofs.SaidF1 as f1
use Rattle.law_messages.proofs.SaidE1 as e1
use Rattle.law_messages.proofs.SaidXn as xn
use Rattle.law_messages.proofs.SaidCore as core
use Rattle.law_messages.proofs.SaidTokens as tokens
use Rattle.law_messages.proofs.written_messages_are_said.Goals as goal

pub returns : goal.returns
returns c = record {
  f1 = λ msg h. record { has = h; is = f1.said msg };
  e1 = λ msg h. record { has = h; is = e1.said msg };
  xn = λ version msg h. record { has = h; is = xn.said version msg h };
  core = λ msg h. record { has = h; is = core.said msg };
  token = λ token h. record { has = h; is = tokens.said token };
}
