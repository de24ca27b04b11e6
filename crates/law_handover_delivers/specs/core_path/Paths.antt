-- Steps of a run beside the models of one bearer, where of the core's path nothing is asked but what a path switch names.
use Rattle.std.specs.Prelude.{◌≡◌, ℕ, List, [], ◌∷◌, Option, Some, None, ⊤}
use Rattle.gnb_types.specs.declared.names.SnBits.{SnBits}
use Rattle.gnb_types.specs.declared.names.UeId.{UeId}
use Rattle.gnb_types.specs.declared.names.BearerId.{BearerId}
use Rattle.gnb_types.specs.Orders.{ue_cmp}
use Rattle.tables.specs.Tables.{find}
use Rattle.message_types.specs.declared.rrc.Token.{Token}
use Rattle.unit_defs.specs.Ways.{Message, Pdu, Output}
use Rattle.unit_defs.specs.CuUpRecords.{n3}
use Rattle.unit_defs.specs.Core.{CorePath, CoreRecord}
use Rattle.transport_defs.specs.declared.ControlMessage.{ControlMessage}
use Rattle.run_defs.specs.Runs.{Reading}
use Rattle.proof_node_orders.specs.core_rows.Shown.{Goal, goal_by}
use Rattle.bearer_defs.specs.chain_defs.Models as down_models
use Rattle.bearer_defs.specs.chain_defs.Orders as down
use Rattle.bearer_defs.specs.chain_defs.Assumptions as down_assumptions
use Rattle.proof_bearer_refinement.specs.run_bearers.Things.{PlainUnits}
use Rattle.proof_bearer_refinement.specs.run_bearers.Bearers.{Numbering}
use Rattle.proof_bearer_refinement.specs.refinement_facts.Refinements.{RunState, owned_on}
use Rattle.proof_bearer_refinement.specs.core_step.Core.{PathLeads, IsOffer, orders_offered, IsCoreStep, orders_told}
use Rattle.proof_bearer_refinement.specs.runs.Steps as refined
use Rattle.proof_bearer_refinement.specs.runs.Steps.{Point, DuActs}
use Rattle.proof_bearer_refinement.specs.runs.Fair.{IsFair}
use Rattle.law_handover_delivers.specs.assumed_runs.Assuming.{CuUpActs}
use Rattle.proof_run_steps.specs.teids.Given.{GiveOnce}

-- the downlink's model came about by orders each of which asked what it does
pub record CameAbout (sn : SnBits) (quota : ℕ) (d : down_models.Model) : Type 0 where
  pub first : ℕ
  pub teid : ℕ
  pub orders : List down.ModelStep
  pub is : d ≡ down.run (down_models.initial first teid) orders
  pub kept : down_assumptions.AreKept sn quota (down_models.initial first teid) orders

-- the core keeps its path of this terminal
abbrev pub PathStays : UeId → RunState → RunState → Type 0
PathStays ue s t = find ue_cmp t.core.paths ue ≡ find ue_cmp s.core.paths ue

-- a path switch names one tunnel of the bearer, and that is the N3 tunnel of one of its contexts
abbrev pub NamesN3 : Numbering → UeId → BearerId → PlainUnits → Option Goal → Type 0
NamesN3 n ue bearer units None = ⊤
NamesN3 n ue bearer units (Some goal) =
    (teid : ℕ) × (x : ℕ) × (goal.teids ≡ teid ∷ []) × (owned_on n ue bearer units goal.up teid ≡ Some (record { context = x; kind = n3 }))

module _ (reading : Reading) (n : Numbering) (ue : UeId) (bearer : BearerId) (sn : SnBits) (quota : ℕ) where
  -- the core's path of the bearer leads to the N3 tunnel of the context that the model sends to
  abbrev pub LeadsAt : Point → Type 0
  LeadsAt p = PathLeads n ue bearer p.state p.down

  -- a packet is offered: nothing is asked
  pub record CoreOffers (p q : Point) : Type 0 where
    pub who : UeId
    pub which : BearerId
    pub packet : List ℕ
    pub path : CorePath
    pub offers : IsOffer reading p.state q.state who which packet path
    pub down : q.down ≡ down.run p.down (orders_offered ue bearer who which packet)
    pub up : q.up ≡ p.up

  -- the core takes a message: of a path switch it is asked what it names, and when it comes
  pub record CoreTakes (p q : Point) : Type 0 where
    pub number : ℕ
    pub control_message : ControlMessage (Message Token)
    pub outputs : List (Output (Message Token) Pdu)
    pub core : CoreRecord (Message Token) Token
    pub takes : IsCoreStep reading p.state q.state number control_message outputs core
    pub names : NamesN3 n ue bearer p.state.units (goal_by ue bearer p.state.core control_message.from control_message.message)
    pub asks : down_assumptions.AreKept sn quota p.down (orders_told n ue bearer p.state control_message)
    pub down : q.down ≡ down.run p.down (orders_told n ue bearer p.state control_message)
    pub up : q.up ≡ p.up

  -- all else: the core's path of the terminal stays too
  pub record StaysInFrame (p q : Point) : Type 0 where
    pub stays : refined.StaysInFrame reading n ue bearer sn quota p q
    pub path : PathStays ue p.state q.state

  pub data Step (p q : Point) : Type 0 where
    a_cu_up : (acts : CuUpActs reading n ue bearer sn quota p q) → Step p q
    a_du : (acts : DuActs reading n ue bearer sn quota p q) → Step p q
    an_offer : (offers : CoreOffers p q) → Step p q
    a_message : (takes : CoreTakes p q) → Step p q
    all_else : (stays : StaysInFrame p q) → Step p q

  -- one after another, each to a state that comes after the one before
  pub data Steps : Point → Point → Type 0 where
    not_yet : (p : Point) → Steps p p
    further : (p q r : Point) → Steps p q → IsFair q.state → IsFair r.state → GiveOnce q.state.units r.state.units → Step q r → Steps p r
