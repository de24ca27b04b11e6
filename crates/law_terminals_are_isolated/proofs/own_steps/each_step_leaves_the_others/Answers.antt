use Rattle.law_terminals_are_isolated.proofs.own_steps.Leaves.{act_leaves}
use Rattle.law_terminals_are_isolated.proofs.own_steps.Runs.{sound_in_run}
use Rattle.law_terminals_are_isolated.proofs.own_steps.each_step_leaves_the_others.Goals as goal

pub returns : goal.returns
returns c = λ reading events s t event ue cause outputs units lines there acted is goes_so.
    act_leaves reading s (sound_in_run reading events s there) ue event cause outputs units t lines is acted goes_so
