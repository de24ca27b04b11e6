-- Steps of a run beside the models of one bearer, each to a later state of the run, where of what an item reports to a CU-UP nothing is
-- asked: of each step it is said what makes it.
use Rattle.std.specs.Prelude.{◌≡◌, ℕ, ◌<◌, List, ◌∷◌, map, Option, Some, None}
use Rattle.gnb_types.specs.declared.names.Gnb.{Gnb}
use Rattle.gnb_types.specs.declared.names.NodeId.{NodeId}
use Rattle.gnb_types.specs.declared.names.NodeId.TheVariants.{CuCp, Core, Ue}
use Rattle.gnb_types.specs.declared.names.Dir.{Dir}
use Rattle.gnb_types.specs.declared.names.SnBits.{SnBits}
use Rattle.gnb_types.specs.declared.names.UeId.{UeId}
use Rattle.gnb_types.specs.declared.names.BearerId.{BearerId}
use Rattle.gnb_types.specs.declared.keys.TunnelEnd.{TunnelEnd}
use Rattle.gnb_types.specs.declared.plans.Plan.{Plan}
use Rattle.gnb_types.specs.Orders.{tunnel_cmp}
use Rattle.tables.specs.Tables.{put}
use Rattle.message_types.specs.declared.rrc.Token.{Token}
use Rattle.scenario_text.specs.declared.event.Event.{Event}
use Rattle.unit_defs.specs.Ways.{Message, Pdu, Input, Output}
use Rattle.unit_defs.specs.Core.{CoreRecord}
use Rattle.unit_defs.specs.Ue.{UeNode}
use Rattle.run_defs.specs.Lines.{RunLine}
use Rattle.run_defs.specs.Units.{Units, with_cu_up, with_du}
use Rattle.run_defs.specs.Written.{written_put}
use Rattle.run_defs.specs.States.{octets_from, core_stepped, entity, goes, radio_of, sn_of, ◌next◌}
use Rattle.run_defs.specs.Steps.{carried_out, check_spans, put_out_all}
use Rattle.run_defs.specs.Conditions.{statically}
use Rattle.run_defs.specs.Runs.{Reading, plain_world}
use Rattle.proof_run_steps.specs.steps.Causes.{node_of, count_of, first_of}
use Rattle.law_terminals_are_isolated.specs.own_steps.Own.{IsActed}
use Rattle.bearer_defs.specs.chain_defs.Orders as down
use Rattle.proof_cu_up_orders.specs.bearer_orders.Happenings.{Beside}
use Rattle.proof_bearer_refinement.specs.run_unit_inputs.Happenings.{CuUpRecord, DuRecord}
use Rattle.proof_bearer_refinement.specs.run_bearers.Bearers.{Numbering, contexts_of}
use Rattle.proof_run_steps.specs.tunnel_steps.Standing.{standing}
use Rattle.proof_bearer_refinement.specs.refinement_facts.Asked.{IsUpStep, down_after, up_after}
use Rattle.proof_bearer_refinement.specs.du_puts.Puts.{IsDuStep}
use Rattle.proof_bearer_refinement.specs.runs.Steps.{Point, DuActs}
use Rattle.law_handover_delivers.specs.assumptions.Assumed.{final_asks}
use Rattle.law_handover_delivers.specs.core_path.Paths as path
use Rattle.law_handover_delivers.specs.core_path.Paths.{CoreOffers, CoreTakes}
use Rattle.proof_run_steps.specs.radio_steps.Radios.{on_air}
use Rattle.proof_run_steps.specs.teids.Given.{GiveOnce}
use Rattle.proof_bearer_refinement.specs.uplink_radio.Radio.{RunState, RunCause, IsAtTerminal, IsUeStep, IsFrameStep}
use Rattle.proof_bearer_refinement.specs.downlink_radio.Down.{down_key}
use Rattle.proof_bearer_refinement.specs.downlink_radio.Received.{received_by, AssumedReceived}
use Rattle.proof_bearer_refinement.specs.carried_was_received.Known.{AreKnown}
use Rattle.proof_bearer_refinement.specs.runs.Fair.{IsFair}
use Rattle.law_handover_delivers.specs.report_links.Reports.{ReportsAreTrue, RunItem, RunPut}
use Rattle.law_handover_delivers.specs.reports_at_cu_up.Still.{AllAssumeStill}

-- ---- a CU-CP acts; another terminal does

pub record CuCpActs (reading : Reading) (s t : RunState) : Type 0 where
  pub gnb : Gnb
  pub event : Event
  pub cause : RunCause
  pub outputs : List RunPut
  pub units : Units (Message Token) Token
  pub lines : List (RunLine (Message Token))
  pub node : node_of cause ≡ CuCp gnb
  pub acted : IsActed (plain_world reading) event s cause outputs units
  pub goes_on : carried_out (plain_world reading) (node_of cause) (count_of cause) (first_of (plain_world reading) cause) outputs units s ≡ goes lines t

pub record OtherActs (reading : Reading) (ue : UeId) (bearer : BearerId) (s t : RunState) : Type 0 where
  pub number : ℕ
  pub event : Event
  pub cause : RunCause
  pub outputs : List RunPut
  pub units : Units (Message Token) Token
  pub node : node_of cause ≡ Ue number
  pub acted : IsActed (plain_world reading) event s cause outputs units
  pub beside : IsFrameStep reading s t ue bearer cause outputs units

-- ---- the core is given octets from outside

pub record CoreReads (reading : Reading) (s t : RunState) : Type 0 where
  pub from : NodeId
  pub octets : List ℕ
  pub outputs : List RunPut
  pub core : CoreRecord (Message Token) Token
  pub lines : List (RunLine (Message Token))
  pub answers : (plain_world reading).core_answer (sn_of s) s.core (octets_from from octets) ≡ core_stepped outputs core
  pub goes_on : (put_out_all (plain_world reading) Core None outputs (record s { core = core }) next check_spans) ≡ goes lines t

-- ---- the oldest item of a tunnel is lost; a message lands or is lost, a run begins, a unit holds an item, lines are printed

pub record FirstIsLost (ue : UeId) (bearer : BearerId) (s t : RunState) : Type 0 where
  pub end : TunnelEnd
  pub item : RunItem
  pub rest : List RunItem
  pub stands : standing s end ≡ Some (item ∷ rest)
  pub tunnels : t.tunnels ≡ put tunnel_cmp s.tunnels end rest
  pub radios : (dir : Dir) → on_air t (entity ue bearer dir) ≡ on_air s (entity ue bearer dir)

pub record LinksStay (ue : UeId) (bearer : BearerId) (s t : RunState) : Type 0 where
  pub tunnels : t.tunnels ≡ s.tunnels
  pub radios : (dir : Dir) → on_air t (entity ue bearer dir) ≡ on_air s (entity ue bearer dir)

module _ (reading : Reading) (n : Numbering) (ue : UeId) (bearer : BearerId) (sn : SnBits) (quota : ℕ) where
  -- what stands on the bearer's tunnels and on its radio up reports only what the model received
  abbrev pub ReportsAreTrueAt : Point → Type 0
  ReportsAreTrueAt p = ReportsAreTrue ue bearer p.down.terminal.deliv p.state

  -- what was carried on its terminal's radio down and isn't confirmed to the DU was received
  abbrev pub IsKnownAt : Point → Type 0
  IsKnownAt p = AreKnown (radio_of p.state (down_key ue bearer)) p.down.terminal.deliv

  -- a CU-UP acts, and what is assumed of its orders is so, but for what an item reports
  pub record CuUpActs (p q : Point) : Type 0 where
    pub gnb : Gnb
    pub number : ℕ
    pub event : Event
    pub cause : RunCause
    pub input : Input Token Pdu
    pub outputs : List (Output (Message Token) Pdu)
    pub left : CuUpRecord
    pub beside : Beside
    pub acts : IsUpStep reading p.state q.state gnb number cause input outputs left
    pub acted : IsActed (plain_world reading) event p.state cause (map (written_put (sn_of p.state)) outputs) (with_cu_up p.state.units gnb number left)
    pub assumes : AllAssumeStill n ue bearer p.state.units sn quota p.down p.up (contexts_of n ue bearer p.state.units)
        (final_asks n ue bearer p.state gnb number cause input beside)
    pub down : q.down ≡ down_after n ue bearer p.state.units sn quota p.down (contexts_of n ue bearer p.state.units)
        (final_asks n ue bearer p.state gnb number cause input beside)
    pub up : q.up ≡ up_after n ue bearer p.state.units sn quota p.up (contexts_of n ue bearer p.state.units)
        (final_asks n ue bearer p.state gnb number cause input beside)

  -- a DU acts, by a step that `proof_bearer_refinement::runs` takes
  pub record DuTells (p q : Point) : Type 0 where
    pub gnb : Gnb
    pub number : ℕ
    pub event : Event
    pub cause : RunCause
    pub input : Input Token Pdu
    pub outputs : List (Output (Message Token) Pdu)
    pub left : DuRecord
    pub acts : IsDuStep reading p.state q.state gnb number cause input outputs left
    pub acted : IsActed (plain_world reading) event p.state cause (map (written_put (sn_of p.state)) outputs) (with_du p.state.units gnb number left)
    pub step : DuActs reading n ue bearer sn quota p q

  -- the terminal acts: it shows the models and has room for a packet, and of a packet that it takes none before it is missing, and it was
  -- put for the present radio or received before
  pub record TerminalActs (p q : Point) : Type 0 where
    pub refinement : IsAtTerminal reading ue bearer p.state (record { up = p.up; down = p.down })
    pub event : Event
    pub cause : RunCause
    pub input : Input Token Pdu
    pub outputs : List (Output (Message Token) Pdu)
    pub left : UeNode
    pub to : Option ℕ
    pub acts : IsUeStep reading event p.state q.state ue refinement.terminal left cause input outputs
    pub some : 0 < refinement.terminal.plan.quota
    pub assumed : AssumedReceived refinement.terminal (record { up = p.up; down = p.down }) bearer to input
    pub down : q.down ≡ down.run p.down (received_by refinement.terminal (record { up = p.up; down = p.down }) bearer to input).down

  -- what makes a step that is none of a CU-UP, of a DU, of an offered packet or of a message to the core
  pub data Makes (p q : Point) : Type 0 where
    the_terminal : (acts : TerminalActs p q) → Makes p q
    a_cu_cp : (acts : CuCpActs reading p.state q.state) → Makes p q
    another_terminal : (acts : OtherActs reading ue bearer p.state q.state) → Makes p q
    a_set_up : (plan : Plan) → q.state ≡ statically plan p.state → Makes p q
    the_core_reads : (reads : CoreReads reading p.state q.state) → Makes p q
    a_loss : (loses : FirstIsLost ue bearer p.state q.state) → Makes p q
    nothing_else : (stays : LinksStay ue bearer p.state q.state) → Makes p q

  pub record StaysInFrame (p q : Point) : Type 0 where
    pub stays : path.StaysInFrame reading n ue bearer sn quota p q
    pub makes : Makes p q

  pub data Step (p q : Point) : Type 0 where
    a_cu_up : (acts : CuUpActs p q) → Step p q
    a_du : (acts : DuTells p q) → Step p q
    an_offer : (offers : CoreOffers reading n ue bearer sn quota p q) → Step p q
    a_message : (takes : CoreTakes reading n ue bearer sn quota p q) → Step p q
    all_else : (stays : StaysInFrame p q) → Step p q

  -- one after another, each to a state that comes after the one before
  pub data Steps : Point → Point → Type 0 where
    not_yet : (p : Point) → Steps p p
    further : (p q r : Point) → Steps p q → IsFair q.state → IsFair r.state → GiveOnce q.state.units r.state.units → Step q r → Steps p r
