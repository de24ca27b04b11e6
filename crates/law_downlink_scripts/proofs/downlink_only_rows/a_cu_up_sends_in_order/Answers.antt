use Rattle.law_downlink_scripts.proofs.downlink_only_rows.Takes.{takes_fresh, takes_status}
use Rattle.law_downlink_scripts.proofs.downlink_only_rows.a_cu_up_sends_in_order.Goals as goal

pub returns-clause-fresh_ones : goal.returns-clause-fresh_ones
returns-clause-fresh_ones g c = λ way r teid t x b d serves p is_open kind there has on calm.
    takes_fresh way r teid t x b d serves p is_open kind there has on calm

pub returns-clause-statuses : goal.returns-clause-statuses
returns-clause-statuses g c = λ way r teid t x b d serves delivered is_open kind there has on calm.
    takes_status way r teid t x b d serves delivered is_open kind there has on calm
