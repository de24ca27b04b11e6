-- What couples terminals at a tick of a unit, and where a terminal is set up without messages; and a tick, from a state to the next.
use Rattle.std.specs.Prelude.{◌≡◌, false, List, None}
use Rattle.std.specs.List.{AllByRecursion}
use Rattle.gnb_types.specs.declared.names.NodeId.{NodeId}
use Rattle.gnb_types.specs.declared.names.NodeId.TheVariants.{CuCp, CuUp as up_id, Du as du_id}
use Rattle.gnb_types.specs.declared.names.UeId.{UeId}
use Rattle.message_types.specs.declared.rrc.Token.{Token}
use Rattle.scenario_text.specs.declared.event.Event.{Event}
use Rattle.unit_defs.specs.Ways.{Message, Load, Pdu, Put}
use Rattle.run_defs.specs.Lines.{RunLine}
use Rattle.run_defs.specs.Units.{Units, cu_cp_of, cu_up_of, du_of}
use Rattle.run_defs.specs.Written.{Written}
use Rattle.run_defs.specs.States.{goes}
use Rattle.run_defs.specs.Steps.{carried_out}
use Rattle.run_defs.specs.Runs.{Reading, plain_world}
use Rattle.proof_run_steps.specs.steps.Causes.{by_tick, first_of}
use Rattle.proof_run_steps.specs.steps.IsOutcome.{IsDone}
use Rattle.law_terminals_are_isolated.specs.cu_cp_projection.CuCps.{cu_cp_shared}
use Rattle.law_terminals_are_isolated.specs.cu_up_projection.CuUps.{cu_up_shared}
use Rattle.law_terminals_are_isolated.specs.du_projection.Dus.{du_shared}
use Rattle.law_terminals_are_isolated.specs.tick_projections.Ticks.{outputs_of}
use Rattle.law_terminals_are_isolated.specs.own_steps.Own.{IsActed}
use Rattle.law_terminals_are_isolated.specs.own_events.Events.{RunState}
use Rattle.law_terminals_are_isolated.specs.run_ticks.Ticks.{IsUnit, IsReported}
use Rattle.law_terminals_are_isolated.specs.step_consistency.Places.{Shared, of_cu_cp, of_up, of_du, of_none}
use Rattle.law_terminals_are_isolated.specs.step_consistency.EqualStates.{Agree}

-- the same without room, which says nothing to a tick, and to a terminal that is set up without messages
abbrev pub shared_but_room : {M C : Type 0} → Units M C → NodeId → Shared
shared_but_room units (CuCp gnb) = of_cu_cp (cu_cp_shared (cu_cp_of units gnb))
shared_but_room units (up_id gnb number) = of_up (cu_up_shared (cu_up_of units gnb number)) (λ count quota. false)
shared_but_room units (du_id gnb number) = of_du (du_shared (du_of units gnb number))
shared_but_room units node = of_none

-- a unit has a tick
pub record IsTicked (reading : Reading) (node : NodeId) (s t : RunState) : Type 0 where
  pub event : Event
  pub outputs : List (Put (Message Token) (Written (Load Pdu)) (Written Pdu))
  pub units : Units (Message Token) Token
  pub lines : List (RunLine (Message Token))
  pub unit : IsUnit node
  pub acted : IsActed (plain_world reading) event s (by_tick node) outputs units
  pub done : IsDone outputs
  pub goes_so : carried_out (plain_world reading) node None (first_of (plain_world reading) (by_tick node)) outputs units s ≡ goes lines t

-- two ticks: the same is put for the terminal, nothing but messages is put, and its projection is the same at all units
pub record Ticked {M C L P : Type 0} (ue : UeId) (xs ys : List (Put M L P)) (a b : Units M C) : Type 0 where
  pub same : outputs_of ue.0 xs ≡ outputs_of ue.0 ys
  pub first : AllByRecursion IsReported xs
  pub second : AllByRecursion IsReported ys
  pub units : Agree ue a b
