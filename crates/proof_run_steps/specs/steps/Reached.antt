-- The states of a run: after a list of events, from a state, where the run doesn't stop before.
use Rattle.std.specs.Prelude.{List, [], ◌∷◌, Option, Some, None}
use Rattle.scenario_text.specs.declared.event.Event.{Event}
use Rattle.run_defs.specs.States.{State, World, goes, stops, Outcome}
use Rattle.run_defs.specs.Runs.{happens}

module _ {M C L P : Type 0} (world : World M C L P) where
  abbrev pub reached_by : (State M C L P → Option (State M C L P)) → Outcome M C L P → Option (State M C L P)
  reached_by more (goes steps after) = more after
  reached_by more (stops steps why) = None

  abbrev pub reached : List Event → State M C L P → Option (State M C L P)
  reached [] s = Some s
  reached (event ∷ events) s = reached_by (reached events) (happens world event s)
