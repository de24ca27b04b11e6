use Rattle.std.proofs.Common.{subst}
use Rattle.run_defs.specs.Runs.{plain_world, happens}
use Rattle.law_terminals_are_isolated.proofs.own_steps.Runs.{sound_in_run}
use Rattle.law_terminals_are_isolated.specs.own_events.Passed.{Passes, not_yet, further}
use Rattle.law_terminals_are_isolated.proofs.own_events.Passed.{sound_past}
use Rattle.law_terminals_are_isolated.proofs.own_events.Leaves.{LeavesAt, made_leaves}
use Rattle.law_terminals_are_isolated.proofs.named_events.Named.{named_for}
use Rattle.law_terminals_are_isolated.proofs.named_events.an_event_for_a_terminal_leaves_the_others.Goals as goal

pub returns : goal.returns
returns c = λ reading events event s t ue told there its goes_so.
    let own = named_for reading ue s (sound_in_run reading events s there) event its in
    subst (LeavesAt reading ue s) goes_so
    (made_leaves reading ue (Passes (plain_world reading) event s) (sound_past reading events event s there) event (further s) s
    (happens (plain_world reading) event s) own.0 (not_yet s) own.1)
