-- The states of which the laws of a run's steps speak: fair ones. A state that a run passes is one.
use Rattle.std.specs.Prelude.{◌≡◌, List, Some}
use Rattle.scenario_text.specs.declared.event.Event.{Event}
use Rattle.run_defs.specs.States.{new_state}
use Rattle.run_defs.specs.Runs.{Reading, plain_world}
use Rattle.proof_run_steps.specs.steps.Reached.{reached}
use Rattle.proof_run_steps.specs.teids.Given.{GiveOnce}
use Rattle.proof_run_steps.specs.facts.Facts.{Hold}
use Rattle.proof_run_steps.specs.facts.UnitFacts.{written_facts}
use Rattle.proof_unit_steps.specs.tunnel_names.Names.{by_book}
use Rattle.proof_unit_steps.specs.tunnels.Units.{NoneIsFree}
use Rattle.law_tunnels_are_owned.specs.tunnel_book.Book.{book_of}
use Rattle.law_tunnels_are_owned.proofs.link_items.Names.{link_items}
use Rattle.law_tunnels_are_owned.proofs.run_tunnels.Runs.{Named}
use Rattle.law_terminals_are_isolated.specs.own_events.Passed.{Passes}
use Rattle.law_terminals_are_isolated.proofs.own_steps.Steps.{Sound}
use Rattle.proof_bearer_refinement.specs.run_bearers.Things.{PlainUnits}
use Rattle.proof_bearer_refinement.specs.refinement_facts.Refinements.{RunState}

-- links and units hold their own; items are put by nodes that may put them; no TEID is free that the units' book has; and what stands on
-- links and in units is named by the book of these units, and of all that they come to
pub record IsFair (s : RunState) : Type 0 where
  pub sound : Sound s
  pub items : Hold (written_facts link_items) s
  pub none : NoneIsFree (by_book (book_of s.units))
  pub named : (later : PlainUnits) (none : NoneIsFree (by_book (book_of later))) → GiveOnce s.units later → Hold (Named later none) s

-- ---- of runs from the first state

-- a state that a run passes, within an event too
pub record IsPassed (reading : Reading) (s : RunState) : Type 0 where
  pub events : List Event
  pub event : Event
  pub before : RunState
  pub there : reached (plain_world reading) events new_state ≡ Some before
  pub passes : Passes (plain_world reading) event before s

-- the run goes on from this state to that one, within an event
abbrev pub Comes : Reading → RunState → RunState → Type 0
Comes reading s t = (event : Event) × Passes (plain_world reading) event s t
