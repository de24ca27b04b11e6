use Rattle.law_messages.proofs.from_value_messages.SaysF1 as f1
use Rattle.law_messages.proofs.from_value_messages.SaysE1 as e1
use Rattle.law_messages.proofs.from_value_messages.SaysXn as xn
use Rattle.law_messages.proofs.from_value_messages.SaysCore as core
use Rattle.law_messages.proofs.from_value_messages.SaysToken as tokens
use Rattle.law_messages.proofs.from_value_messages.from_value_messages_are_said.Goals as goal

pub returns : goal.returns
returns c = record {
  f1 = λ msg v h e. record { has = h; is = f1.from_value_says msg v h e };
  e1 = λ msg v h e. record { has = h; is = e1.from_value_says msg v h e };
  xn = λ version msg v h e. record { has = h; is = xn.from_value_says version msg v h e };
  core = λ msg v h e. record { has = h; is = core.from_value_says msg v h e };
  token = λ token v h e. record { has = h; is = tokens.from_value_says token v h e };
}
