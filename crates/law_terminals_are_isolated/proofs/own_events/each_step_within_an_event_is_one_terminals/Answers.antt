use Rattle.run_defs.specs.States.{sn_of}
use Rattle.proof_run_steps.specs.steps.Causes.{node_of, given_of}
use Rattle.law_terminals_are_isolated.proofs.own_steps.Steps.{step_for, answered_for}
use Rattle.law_terminals_are_isolated.proofs.own_steps.Leaves.{act_leaves}
use Rattle.law_terminals_are_isolated.proofs.own_events.Passed.{sound_past}
use Rattle.law_terminals_are_isolated.proofs.own_events.each_step_within_an_event_is_one_terminals.Goals as goal

pub returns-clause-is_its_own : goal.returns-clause-is_its_own
returns-clause-is_its_own c = λ reading events event s t ue cause outputs units there passed acted is.
    let sound = sound_past reading events event s there t passed in (
      step_for reading t sound ue event cause acted.stands is,
      (answered_for reading t sound ue (sn_of t) (node_of cause) (given_of cause) outputs units is acted.answers).0,
    )

pub returns-clause-leaves : goal.returns-clause-leaves
returns-clause-leaves c = λ reading events event s t u ue cause outputs units lines there passed acted is goes_so.
    act_leaves reading t (sound_past reading events event s there t passed) ue event cause outputs units u lines is acted goes_so
