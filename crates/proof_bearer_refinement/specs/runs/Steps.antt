-- A run and the two models of one bearer, step by step: what the run does, the orders that it is for the models, and what is assumed of it.
use Rattle.std.specs.Prelude.{◌≡◌, ℕ, true, List, [], Some, ⊤}
use Rattle.std.specs.List.{AllByRecursion}
use Rattle.gnb_types.specs.declared.names.Gnb.{Gnb}
use Rattle.gnb_types.specs.declared.names.SnBits.{SnBits}
use Rattle.gnb_types.specs.declared.names.UeId.{UeId}
use Rattle.gnb_types.specs.declared.names.BearerId.{BearerId}
use Rattle.gnb_types.specs.declared.keys.TunnelEnd.{TunnelEnd}
use Rattle.message_types.specs.declared.rrc.Token.{Token}
use Rattle.unit_defs.specs.Ways.{Message, Pdu, Input, Output}
use Rattle.unit_defs.specs.Core.{CorePath, CoreRecord}
use Rattle.transport_defs.specs.declared.ControlMessage.{ControlMessage}
use Rattle.run_defs.specs.Runs.{Reading}
use Rattle.proof_run_steps.specs.tunnel_steps.Standing.{standing}
use Rattle.bearer_defs.specs.chain_defs.Models as down_models
use Rattle.bearer_defs.specs.chain_defs.Orders as down
use Rattle.bearer_defs.specs.chain_defs.Assumptions as down_assumptions
use Rattle.bearer_defs.specs.uplink_defs.Models as up_models
use Rattle.bearer_defs.specs.uplink_defs.Orders as up
use Rattle.bearer_defs.specs.uplink_defs.Assumptions as up_assumptions
use Rattle.proof_cu_up_orders.specs.context_orders.Shown.{is_bearer}
use Rattle.proof_cu_up_orders.specs.bearer_orders.Happenings.{Beside}
use Rattle.proof_bearer_refinement.specs.run_unit_inputs.Happenings.{CuUpRecord, DuRecord}
use Rattle.proof_bearer_refinement.specs.run_bearers.Bearers.{Numbering, contexts_of}
use Rattle.proof_bearer_refinement.specs.refinement_facts.Refinements.{RunState, Owned, owned_at}
use Rattle.proof_bearer_refinement.specs.refinement_facts.Asked.{RunCause, IsUpStep, AllAsk, down_after, up_after, Refines, step_asks}
use Rattle.proof_bearer_refinement.specs.du_puts.Puts.{IsDuStep, AllLead, orders_up, puts_of}
use Rattle.proof_bearer_refinement.specs.cu_up_opens.Fresh.{UplinksAreFresh}
use Rattle.proof_bearer_refinement.specs.core_step.Core.{PathLeads, IsOffer, orders_offered, IsCoreStep, orders_told}
use Rattle.proof_bearer_refinement.specs.runs.Fair.{IsFair}
use Rattle.proof_node_orders.specs.core_rows.Shown.{goal_by, IsOne}

-- a state of the run, and the models then
pub record Point : Type 0 where
  pub state : RunState
  pub down : down_models.Model
  pub up : up_models.Model

-- orders of the terminal and of its radio: no context changes by them, and no tunnel
abbrev pub IsOfRadio : down.ModelStep → Type 0
IsOfRadio (down.arrives x) = ⊤
IsOfRadio down.fails = ⊤
IsOfRadio (down.carries count packet rest) = ⊤
IsOfRadio order = ⊥

abbrev pub IsOfTerminal : up.ModelStep → Type 0
IsOfTerminal (up.offers packet) = ⊤
IsOfTerminal (up.numbers packet rest) = ⊤
IsOfTerminal up.connects = ⊤
IsOfTerminal up.leaves = ⊤
IsOfTerminal (up.arrives x) = ⊤
IsOfTerminal (up.acknowledges count rest) = ⊤
IsOfTerminal (up.reports fmc bits) = ⊤
IsOfTerminal order = ⊥

-- what a step leaves of the bearer: its contexts, whose its tunnels are, and what stands there
pub record LeavesBearer (n : Numbering) (ue : UeId) (bearer : BearerId) (s t : RunState) : Type 0 where
  pub contexts : contexts_of n ue bearer t.units ≡ contexts_of n ue bearer s.units
  pub owners : (end : TunnelEnd) → owned_at n ue bearer t.units end ≡ owned_at n ue bearer s.units end
  pub tunnels : (end : TunnelEnd) (o : Owned) → owned_at n ue bearer s.units end ≡ Some o → standing t end ≡ standing s end

module _ (reading : Reading) (n : Numbering) (ue : UeId) (bearer : BearerId) (sn : SnBits) (quota : ℕ) where
  abbrev pub IsRefined : Point → Type 0
  IsRefined p = Refines n ue bearer sn quota p.state p.down p.up

  -- ---- a CU-UP acts: each of its orders asks what it does, and on an uplink whose TEID was not given yet the model has nothing

  pub record CuUpActs (p q : Point) : Type 0 where
    pub gnb : Gnb
    pub number : ℕ
    pub cause : RunCause
    pub input : Input Token Pdu
    pub outputs : List (Output (Message Token) Pdu)
    pub left : CuUpRecord
    pub beside : Beside
    pub acts : IsUpStep reading p.state q.state gnb number cause input outputs left
    pub asks : AllAsk n ue bearer p.state.units sn quota p.down p.up (contexts_of n ue bearer p.state.units)
        (step_asks n ue bearer p.state gnb number cause input beside)
    pub fresh : UplinksAreFresh n ue bearer p.state gnb number p.up
    pub down : q.down ≡ down_after n ue bearer p.state.units sn quota p.down (contexts_of n ue bearer p.state.units)
        (step_asks n ue bearer p.state gnb number cause input beside)
    pub up : q.up ≡ up_after n ue bearer p.state.units sn quota p.up (contexts_of n ue bearer p.state.units)
        (step_asks n ue bearer p.state gnb number cause input beside)

  -- ---- a DU acts: what it puts for the bearer leads to an uplink, and for a packet to the terminal's context, where no End Marker stands

  pub record DuActs (p q : Point) : Type 0 where
    pub gnb : Gnb
    pub number : ℕ
    pub cause : RunCause
    pub input : Input Token Pdu
    pub outputs : List (Output (Message Token) Pdu)
    pub left : DuRecord
    pub acts : IsDuStep reading p.state q.state gnb number cause input outputs left
    pub leads : AllLead n ue bearer p.state.units p.up.station (puts_of ue bearer p.state.units gnb number input)
    pub asks : up_assumptions.AreKept p.up (orders_up n ue bearer p.state.units p.up (puts_of ue bearer p.state.units gnb number input))
    pub down : q.down ≡ p.down
    pub up : q.up ≡ up.run p.up (orders_up n ue bearer p.state.units p.up (puts_of ue bearer p.state.units gnb number input))

  -- ---- a packet is offered; the core takes a message

  pub record CoreOffers (p q : Point) : Type 0 where
    pub who : UeId
    pub which : BearerId
    pub packet : List ℕ
    pub path : CorePath
    pub offers : IsOffer reading p.state q.state who which packet path
    pub leads : is_bearer ue bearer who which ≡ true → PathLeads n ue bearer p.state p.down
    pub down : q.down ≡ down.run p.down (orders_offered ue bearer who which packet)
    pub up : q.up ≡ p.up

  pub record CoreTakes (p q : Point) : Type 0 where
    pub number : ℕ
    pub control_message : ControlMessage (Message Token)
    pub outputs : List (Output (Message Token) Pdu)
    pub core : CoreRecord (Message Token) Token
    pub takes : IsCoreStep reading p.state q.state number control_message outputs core
    pub leads : PathLeads n ue bearer p.state p.down
    pub one : IsOne (goal_by ue bearer p.state.core control_message.from control_message.message)
    pub asks : down_assumptions.AreKept sn quota p.down (orders_told n ue bearer p.state control_message)
    pub down : q.down ≡ down.run p.down (orders_told n ue bearer p.state control_message)
    pub up : q.up ≡ p.up

  -- ---- all else: the bearer's contexts and tunnels stay, and the models go on by orders of the terminal and its radio

  pub record StaysInFrame (p q : Point) : Type 0 where
    pub rest : LeavesBearer n ue bearer p.state q.state
    pub radio : List down.ModelStep
    pub terminal : List up.ModelStep
    pub of_radio : AllByRecursion IsOfRadio radio
    pub of_terminal : AllByRecursion IsOfTerminal terminal
    pub radio_asks : down_assumptions.AreKept sn quota p.down radio
    pub terminal_asks : up_assumptions.AreKept p.up terminal
    pub down : q.down ≡ down.run p.down radio
    pub up : q.up ≡ up.run p.up terminal

  -- ---- a step, and steps of a run one after another

  pub data Step (p q : Point) : Type 0 where
    a_cu_up : (acts : CuUpActs p q) → Step p q
    a_du : (acts : DuActs p q) → Step p q
    an_offer : (offers : CoreOffers p q) → Step p q
    a_message : (takes : CoreTakes p q) → Step p q
    all_else : (stays : StaysInFrame p q) → Step p q

  pub data Steps : Point → Point → Type 0 where
    not_yet : (p : Point) → Steps p p
    further : (p q r : Point) → Steps p q → IsFair q.state → IsFair r.state → Step q r → Steps p r

  -- ---- what the models do meanwhile: orders, each of which asks what it does

  pub record AreOrders (p q : Point) : Type 0 where
    pub downs : List down.ModelStep
    pub ups : List up.ModelStep
    pub down : q.down ≡ down.run p.down downs
    pub up : q.up ≡ up.run p.up ups
    pub down_kept : down_assumptions.AreKept sn quota p.down downs
    pub up_kept : up_assumptions.AreKept p.up ups
