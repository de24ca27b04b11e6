-- A step of a unit that a run makes, and what a step leaves of the terminals that it isn't for: their whole projections, at the units, at
-- the core and on the links.
use Rattle.std.specs.Prelude.{ℕ, ◌≡◌, false, List}
use Rattle.gnb_types.specs.declared.names.Gnb.{Gnb}
use Rattle.gnb_types.specs.declared.names.UeId.{UeId}
use Rattle.scenario_text.specs.declared.event.Event.{Event}
use Rattle.unit_defs.specs.Ways.{Put}
use Rattle.run_defs.specs.Units.{Units, cu_up_of}
use Rattle.run_defs.specs.States.{State, stepped, World, sn_of}
use Rattle.run_defs.specs.Steps.{too_many_control_messages}
use Rattle.proof_run_steps.specs.steps.Causes.{Cause, node_of, given_of, Stands}
use Rattle.law_terminals_are_isolated.specs.projections.Projections.{core_projection}
use Rattle.law_terminals_are_isolated.specs.projections.Steps.{StaysFor}
use Rattle.law_terminals_are_isolated.specs.cu_up_projection.CuUps.{cu_up_projection}
use Rattle.law_terminals_are_isolated.specs.run_projections.Units.{units_projection}
use Rattle.law_terminals_are_isolated.specs.frame_of_steps.Others.{OthersStay}

-- for this cause a unit answers so in this state, and there is room for the control messages
pub record IsActed {M C L P : Type 0} (world : World M C L P) (event : Event) (s : State M C L P) (cause : Cause M L P)
    (outputs : List (Put M L P)) (units : Units M C) : Type 0 where
  pub stands : Stands event s cause
  pub answers : world.answer (sn_of s) s.units (node_of cause) (given_of cause) ≡ stepped outputs units
  pub few : too_many_control_messages world outputs s ≡ false

-- the projections of all other terminals: what all units keep of them, which open TEIDs of CU-UPs are theirs, what the core keeps, and what
-- the run keeps beside
pub record LeavesOthers {M C L P : Type 0} (ue : UeId) (s t : State M C L P) : Type 0 where
  pub units : StaysFor units_projection ue s.units t.units
  pub tunnels : (gnb : Gnb) (number : ℕ) → StaysFor cu_up_projection ue (cu_up_of s.units gnb number) (cu_up_of t.units gnb number)
  pub core : StaysFor core_projection ue s.core t.core
  pub beside : OthersStay ue s t
