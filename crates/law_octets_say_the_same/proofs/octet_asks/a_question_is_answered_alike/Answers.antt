use Rattle.law_octets_say_the_same.proofs.octet_asks.Asks.{asks_alike}
use Rattle.law_octets_say_the_same.proofs.octet_asks.a_question_is_answered_alike.Goals as goal

pub returns : goal.returns
returns g = λ codec s ue bearer idle. asks_alike codec s ue bearer idle
