use Rattle.law_downlink_scripts.proofs.run_delivers.Delivers.{up_run_delivers, terminal_run_delivers}
use Rattle.law_downlink_scripts.proofs.run_delivers.what_is_awaited_is_delivered.Goals as goal

pub returns-clause-up : goal.returns-clause-up
returns-clause-up c = λ reading events t gnb number teid item rest count packet is found next.
    up_run_delivers reading events t is gnb number teid item rest count packet found next

pub returns-clause-down : goal.returns-clause-down
returns-clause-down c = λ reading events t ue bearer home item u count packet is has at found says there next.
    terminal_run_delivers reading events t is ue bearer home item u count packet has at found says there next
