use Rattle.law_requests_act_once.proofs.unit_setups.Cores.{core_asks_none}
use Rattle.law_requests_act_once.proofs.unit_setups.the_core_asks_nothing.Goals as goal

pub returns : goal.returns
returns g c = λ way r from m. core_asks_none way r from m
