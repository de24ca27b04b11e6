-- What a refusal is, in the steps of an event, and that it leaves the state as it was.
use Rattle.std.specs.Prelude.{◌≡◌, List, [], ◌∷◌, None}
use Rattle.gnb_types.specs.declared.reasons.RefuseReason.{RefuseReason}
use Rattle.run_defs.specs.Lines.{was_refused}
use Rattle.run_defs.specs.States.{State, goes, stops, RunStep, step_of, Outcome}

-- all that happened is that the event was refused
abbrev pub IsRefusal : {M : Type 0} → List (RunStep M) → Type 0
IsRefusal steps = (reason : RefuseReason) × (steps ≡ step_of None (was_refused reason ∷ []) ∷ [])

-- then the state is as it was before
abbrev pub StaysWhereRefused : {M C L P : Type 0} → State M C L P → Outcome M C L P → Type 0
StaysWhereRefused s (goes steps after) = IsRefusal steps → after ≡ s
StaysWhereRefused s (stops steps why) = Unit {0}
