use Rattle.run_defs.specs.States.{sn_of}
use Rattle.proof_run_steps.specs.steps.Causes.{node_of, given_of}
use Rattle.law_terminals_are_isolated.proofs.own_steps.Steps.{step_for, answered_for}
use Rattle.law_terminals_are_isolated.proofs.own_steps.Runs.{sound_in_run}
use Rattle.law_terminals_are_isolated.proofs.own_steps.each_step_and_output_is_one_terminals.Goals as goal

pub returns : goal.returns
returns c = λ reading events t event ue cause outputs units there acted is.
    let sound = sound_in_run reading events t there in (
      step_for reading t sound ue event cause acted.stands is,
      (answered_for reading t sound ue (sn_of t) (node_of cause) (given_of cause) outputs units is acted.answers).0,
    )
