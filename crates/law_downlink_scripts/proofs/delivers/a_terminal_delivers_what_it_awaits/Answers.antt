use Rattle.law_downlink_scripts.proofs.delivers.Runs.{ue_delivers, air_delivers}
use Rattle.law_downlink_scripts.proofs.delivers.a_terminal_delivers_what_it_awaits.Goals as goal

pub returns-clause-taken : goal.returns-clause-taken
returns-clause-taken c = λ reading s ue bearer home item u count packet few key says is w.
    ue_delivers reading s ue bearer home item u count packet few key says is w

pub returns-clause-aired : goal.returns-clause-aired
returns-clause-aired c = λ reading s ue bearer home item u count packet few has ready found key says is w.
    air_delivers reading s ue bearer home item u count packet few has ready found key says is w
