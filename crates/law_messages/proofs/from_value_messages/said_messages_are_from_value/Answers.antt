use Rattle.law_messages.proofs.from_value_messages.SaysF1 as f1
use Rattle.law_messages.proofs.from_value_messages.SaysE1 as e1
use Rattle.law_messages.proofs.from_value_messages.SaysXn as xn
use Rattle.law_messages.proofs.from_value_messages.SaysCore as core
use Rattle.law_messages.proofs.from_value_messages.SaysToken as tokens
use Rattle.law_messages.proofs.from_value_messages.said_messages_are_from_value.Goals as goal

pub returns : goal.returns
returns c = record {
  f1 = λ msg v s. f1.said_hears msg v s.has s.is;
  e1 = λ msg v s. e1.said_hears msg v s.has s.is;
  xn = λ version msg v s. xn.said_hears version msg v s.has s.is;
  core = λ msg v s. core.said_hears msg v s.has s.is;
  token = λ token v s. tokens.said_hears token v s.has s.is;
}
