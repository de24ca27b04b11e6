use Rattle.law_um.proofs.Histories.{gap}
use Rattle.law_um.proofs.a_gap_is_awaited_for_all_ticks.Goals as goal

pub returns : goal.returns
returns p c = λ ticks steps count from none less. gap ticks steps count from none less
