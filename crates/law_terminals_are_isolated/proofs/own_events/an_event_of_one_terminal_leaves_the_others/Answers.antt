use Rattle.std.proofs.Common.{subst}
use Rattle.run_defs.specs.Runs.{plain_world}
use Rattle.law_terminals_are_isolated.specs.own_events.Passed.{Passes, further}
use Rattle.law_terminals_are_isolated.proofs.own_events.Passed.{sound_past}
use Rattle.law_terminals_are_isolated.proofs.own_events.Leaves.{LeavesAt, made_leaves}
use Rattle.law_terminals_are_isolated.proofs.own_events.an_event_of_one_terminal_leaves_the_others.Goals as goal

pub returns : goal.returns
returns c = λ reading events event s t u ue e told made there passed all goes_so.
    subst (LeavesAt reading ue t) goes_so
    (made_leaves reading ue (Passes (plain_world reading) event s) (sound_past reading events event s there) event (further s) t e made passed all)
