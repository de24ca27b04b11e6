use Rattle.law_downlink_scripts.proofs.delivers.Runs.{up_delivers, get_delivers}
use Rattle.law_downlink_scripts.proofs.delivers.a_cu_up_delivers_what_it_awaits.Goals as goal

pub returns-clause-taken : goal.returns-clause-taken
returns-clause-taken c = λ reading s gnb number teid item rest count packet few w. up_delivers reading s gnb number teid item rest count packet few w

pub returns-clause-got : goal.returns-clause-got
returns-clause-got c = λ reading s gnb number teid item rest count packet few found w.
    get_delivers reading s gnb number teid item rest count packet few found w
