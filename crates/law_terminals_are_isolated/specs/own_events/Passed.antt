-- The states that a run passes within an event: after some of its steps.
use Rattle.std.specs.Prelude.{List}
use Rattle.scenario_text.specs.declared.event.Event.{Event}
use Rattle.run_defs.specs.States.{State, World, goes, RunStep}
use Rattle.proof_run_steps.specs.steps.IsOutcome.{IsOutcome}

pub data Passes {M C L P : Type 0} (world : World M C L P) (event : Event) : State M C L P → State M C L P → Type 0 where
  not_yet : (s : State M C L P) → Passes world event s s
  further : (s t u : State M C L P) (told : List (RunStep M)) → Passes world event s t → IsOutcome world event t (goes told u)
      → Passes world event s u
