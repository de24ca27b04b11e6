use Rattle.std.proofs.Common.{subst}
use Rattle.run_defs.specs.Runs.{plain_world, happens}
use Rattle.law_terminals_are_isolated.proofs.all_steps.Paths.{sound_on, in_run}
use Rattle.law_terminals_are_isolated.proofs.all_steps.Others.{SharesAt, made_shares}
use Rattle.law_terminals_are_isolated.proofs.all_steps.Events.{event_apart}
use Rattle.law_terminals_are_isolated.proofs.all_steps.events_of_others_leave_a_terminal.Goals as goal

pub returns : goal.returns
returns c = λ reading events event ue s t told there apart goes_so.
    let after = in_run reading events s there in
    let made = event_apart reading ue s (sound_on reading s after) event apart in
    subst (SharesAt reading ue s) goes_so (made_shares reading ue event s (happens (plain_world reading) event s) made.0 after made.1)
