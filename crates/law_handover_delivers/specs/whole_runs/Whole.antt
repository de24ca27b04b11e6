-- Steps of a run beside the models of one bearer, of which nothing is asked but what is assumed, told apart by what makes them.
use Rattle.std.specs.Prelude.{◌≡◌, ◌≢◌, false, true, ℕ, ◌<◌, ◌&&◌, Bool, List, ◌∷◌, map, Option, Some}
use Rattle.gnb_types.specs.declared.names.Gnb.{Gnb}
use Rattle.gnb_types.specs.declared.names.NodeId.TheVariants.{Du}
use Rattle.gnb_types.specs.declared.names.SnBits.{SnBits}
use Rattle.gnb_types.specs.declared.names.UeId.{UeId}
use Rattle.gnb_types.specs.declared.names.BearerId.{BearerId}
use Rattle.gnb_types.specs.declared.keys.TunnelEnd.{TunnelEnd}
use Rattle.gnb_types.specs.declared.plans.Plan.{Plan}
use Rattle.gnb_types.specs.Orders.{tunnel_cmp}
use Rattle.tables.specs.Tables.{put}
use Rattle.message_types.specs.declared.rrc.Token.{Token}
use Rattle.scenario_text.specs.declared.event.Event.{Event}
use Rattle.unit_defs.specs.Ways.{Message, Pdu, Input, Output}
use Rattle.unit_defs.specs.Static.{cu_up_has_teids, du_has_teids}
use Rattle.unit_defs.specs.Ue.{UeNode}
use Rattle.transport_defs.specs.Links.{Bag}
use Rattle.run_defs.specs.Units.{cu_up_of, du_of, ue_of, with_du, with_ue}
use Rattle.run_defs.specs.Written.{written_put}
use Rattle.run_defs.specs.States.{sn_of}
use Rattle.run_defs.specs.Conditions.{is_held_by_units, statically}
use Rattle.run_defs.specs.Events.{is_lossy}
use Rattle.run_defs.specs.Runs.{Reading, plain_world}
use Rattle.proof_run_steps.specs.steps.Causes.{by_air}
use Rattle.law_terminals_are_isolated.specs.own_steps.Own.{IsActed}
use Rattle.bearer_defs.specs.chain_defs.Orders as down
use Rattle.bearer_defs.specs.uplink_defs.Orders as up
use Rattle.proof_bearer_refinement.specs.run_unit_inputs.Happenings.{DuRecord}
use Rattle.proof_bearer_refinement.specs.run_bearers.Bearers.{Numbering}
use Rattle.proof_run_steps.specs.tunnel_steps.Standing.{standing}
use Rattle.proof_run_steps.specs.teids.Given.{GiveOnce}
use Rattle.proof_bearer_refinement.specs.du_puts.Puts.{IsDuStep, puts_of, orders_up}
use Rattle.proof_node_orders.specs.terminal_inputs.Inputs.{Models}
use Rattle.proof_bearer_refinement.specs.uplink_radio.Radio.{RunCause, OnRadio, up_key, Leaves, IsAtTerminal, IsUeStep}
use Rattle.proof_bearer_refinement.specs.downlink_radio.Received.{received_by, AssumedReceived}
use Rattle.law_handover_delivers.specs.report_links.Reports.{RunItem}
use Rattle.proof_bearer_refinement.specs.serving_du.Home.{ServingDuLeads}
use Rattle.law_handover_delivers.specs.assumed_runs.Assuming.{IsWellLinkedAt}
use Rattle.law_handover_delivers.specs.unused_uplinks.Later.{AreFresh}
use Rattle.proof_bearer_refinement.specs.runs.Steps.{Point, IsRefined}
use Rattle.proof_bearer_refinement.specs.runs.Fair.{IsFair}
use Rattle.law_handover_delivers.specs.core_path.Paths.{CameAbout, LeadsAt, CoreOffers, CoreTakes}
use Rattle.law_handover_delivers.specs.report_runs.Steps.{ReportsAreTrueAt, IsKnownAt, CuUpActs, CuCpActs, OtherActs, CoreReads}

abbrev pub both : Point → Models
both p = record { up = p.up; down = p.down }

-- the models do nothing
pub record ModelsStay (p q : Point) : Type 0 where
  pub down : q.down ≡ p.down
  pub up : q.up ≡ p.up

module _ (reading : Reading) (n : Numbering) (ue : UeId) (bearer : BearerId) (sn : SnBits) (quota : ℕ) where
  -- ---- all that is so of a state on the way

  pub record IsWhole (p : Point) : Type 0 where
    pub refinements : IsRefined reading n ue bearer sn quota p
    pub fresh : AreFresh n p.state p.up
    pub well_linked : IsWellLinkedAt reading n ue bearer sn quota p
    pub came : CameAbout sn quota p.down
    pub leads : LeadsAt reading n ue bearer sn quota p
    pub told : ReportsAreTrueAt reading n ue bearer sn quota p
    pub known : IsKnownAt reading n ue bearer sn quota p
    pub shown : IsAtTerminal reading ue bearer p.state (both p)

  -- ---- a DU acts: it is given no PDU of the bearer's radio up; or it takes what stands next there

  pub record DuActs (p q : Point) : Type 0 where
    pub gnb : Gnb
    pub number : ℕ
    pub event : Event
    pub cause : RunCause
    pub input : Input Token Pdu
    pub outputs : List (Output (Message Token) Pdu)
    pub left : DuRecord
    pub acts : IsDuStep reading p.state q.state gnb number cause input outputs left
    pub acted : IsActed (plain_world reading) event p.state cause (map (written_put (sn_of p.state)) outputs) (with_du p.state.units gnb number left)
    pub leaves : Leaves (up_key ue bearer) cause
    pub down : q.down ≡ p.down
    pub up : q.up ≡ up.run p.up (orders_up n ue bearer p.state.units p.up (puts_of ue bearer p.state.units gnb number input))

  pub record DuCarries (p q : Point) : Type 0 where
    pub gnb : Gnb
    pub number : ℕ
    pub event : Event
    pub item : OnRadio
    pub input : Input Token Pdu
    pub outputs : List (Output (Message Token) Pdu)
    pub left : DuRecord
    pub acts : IsDuStep reading p.state q.state gnb number (by_air (up_key ue bearer) (Du gnb number) item) input outputs left
    pub acted : IsActed (plain_world reading) event p.state (by_air (up_key ue bearer) (Du gnb number) item)
        (map (written_put (sn_of p.state)) outputs) (with_du p.state.units gnb number left)
    pub home : ServingDuLeads n ue bearer p gnb number
    pub down : q.down ≡ p.down
    pub up : q.up ≡ up.run p.up (orders_up n ue bearer p.state.units p.up (puts_of ue bearer p.state.units gnb number input))

  -- ---- the terminal acts, by the orders of its input

  pub record UeActs (p q : Point) : Type 0 where
    pub terminal : UeNode
    pub there : ue_of p.state.units ue ≡ Some terminal
    pub some : 0 < terminal.plan.quota
    pub event : Event
    pub cause : RunCause
    pub input : Input Token Pdu
    pub outputs : List (Output (Message Token) Pdu)
    pub left : UeNode
    pub to : Option ℕ
    pub acts : IsUeStep reading event p.state q.state ue terminal left cause input outputs
    pub acted : IsActed (plain_world reading) event p.state cause (map (written_put (sn_of p.state)) outputs) (with_ue p.state.units ue left)
    pub assumed : AssumedReceived terminal (both p) bearer to input
    pub down : q.down ≡ down.run p.down (received_by terminal (both p) bearer to input).down
    pub up : q.up ≡ up.run p.up (received_by terminal (both p) bearer to input).up

  -- ---- a CU-CP acts, but releases or attaches another terminal alone; another terminal acts

  pub record CuCpStep (p q : Point) : Type 0 where
    pub acts : CuCpActs reading p.state q.state
    pub leaves : Leaves (up_key ue bearer) acts.cause
    pub models : ModelsStay p q

  pub record OtherStep (p q : Point) : Type 0 where
    pub acts : OtherActs reading ue bearer p.state q.state
    pub leaves : Leaves (up_key ue bearer) acts.cause
    pub models : ModelsStay p q

  -- ---- another terminal is set up without messages; the core is given octets from outside

  pub record SetsUp (p q : Point) : Type 0 where
    pub plan : Plan
    pub free : is_held_by_units plan p.state.units ≡ false
    pub teids : cu_up_has_teids (cu_up_of p.state.units plan.gnb plan.up) plan && du_has_teids (du_of p.state.units plan.gnb plan.du) plan ≡ true
    pub apart : ue ≢ plan.ue
    pub after : q.state ≡ statically plan p.state
    pub models : ModelsStay p q

  pub record CoreIsGiven (p q : Point) : Type 0 where
    pub reads : CoreReads reading p.state q.state
    pub models : ModelsStay p q

  -- ---- the oldest item of a tunnel to a DU is lost; a message lands where none is taken, or is lost, a run begins, lines are printed

  pub record Loses (p q : Point) : Type 0 where
    pub end : TunnelEnd
    pub item : RunItem
    pub rest : List RunItem
    pub lossy : is_lossy (plain_world reading) end.node ≡ true
    pub stands : standing p.state end ≡ Some (item ∷ rest)
    pub after : q.state ≡ record p.state { tunnels = put tunnel_cmp p.state.tunnels end rest }
    pub models : ModelsStay p q

  pub record Lands (p q : Point) : Type 0 where
    pub started : Bool
    pub bag : Bag (Message Token)
    pub after : q.state ≡ record p.state { started = started; bag = bag }
    pub models : ModelsStay p q

  pub data Step (p q : Point) : Type 0 where
    a_cu_up : (acts : CuUpActs reading n ue bearer sn quota p q) → Step p q
    a_du : (acts : DuActs p q) → Step p q
    its_home : (acts : DuCarries p q) → Step p q
    an_offer : (offers : CoreOffers reading n ue bearer sn quota p q) → Step p q
    a_message : (takes : CoreTakes reading n ue bearer sn quota p q) → Step p q
    the_terminal : (acts : UeActs p q) → Step p q
    a_cu_cp : (acts : CuCpStep p q) → Step p q
    another_terminal : (acts : OtherStep p q) → Step p q
    a_set_up : (sets : SetsUp p q) → Step p q
    octets : (given : CoreIsGiven p q) → Step p q
    a_loss : (loses : Loses p q) → Step p q
    nothing_else : (lands : Lands p q) → Step p q

  -- one after another, each to a state that comes after the one before
  pub data Steps : Point → Point → Type 0 where
    not_yet : (p : Point) → Steps p p
    further : (p q r : Point) → Steps p q → IsFair q.state → IsFair r.state → GiveOnce q.state.units r.state.units → Step q r → Steps p r
