-- Steps of a run beside the models of one bearer, as `whole_runs` takes them, where of a status report that the terminal takes nothing is
-- asked; but of an SN status that its bits say what was carried up.
use Rattle.std.specs.Prelude.{◌≡◌, ℕ, ◌<◌, List, map, Option, Some}
use Rattle.gnb_types.specs.declared.names.SnBits.{SnBits}
use Rattle.gnb_types.specs.declared.names.UeId.{UeId}
use Rattle.gnb_types.specs.declared.names.BearerId.{BearerId}
use Rattle.message_types.specs.declared.rrc.Token.{Token}
use Rattle.scenario_text.specs.declared.event.Event.{Event}
use Rattle.unit_defs.specs.Ways.{Message, Pdu, Input, Output}
use Rattle.unit_defs.specs.Ue.{UeNode}
use Rattle.run_defs.specs.Units.{ue_of, with_ue}
use Rattle.run_defs.specs.Written.{written_put}
use Rattle.run_defs.specs.States.{sn_of}
use Rattle.run_defs.specs.Runs.{Reading, plain_world}
use Rattle.law_terminals_are_isolated.specs.own_steps.Own.{IsActed}
use Rattle.proof_bearer_refinement.specs.downlink_radio.Received.{received_by}
use Rattle.proof_bearer_refinement.specs.uplink_radio.Radio.{RunCause, IsUeStep}
use Rattle.law_handover_delivers.specs.down_reports_elsewhere.Assumed.{AssumedBesides}
use Rattle.law_handover_delivers.specs.down_report_frames.Statuses.{AllAssumeStatus}
use Rattle.law_handover_delivers.specs.down_reports.Reports.{ReportsDownAreTrue}
use Rattle.bearer_defs.specs.chain_defs.Orders as down
use Rattle.bearer_defs.specs.uplink_defs.Orders as up
use Rattle.proof_bearer_refinement.specs.run_bearers.Bearers.{Numbering, contexts_of}
use Rattle.law_handover_delivers.specs.assumptions.Assumed.{final_asks}
use Rattle.proof_bearer_refinement.specs.runs.Steps.{Point}
use Rattle.proof_bearer_refinement.specs.runs.Fair.{IsFair}
use Rattle.law_handover_delivers.specs.whole_runs.Whole as whole
use Rattle.law_handover_delivers.specs.whole_runs.Whole.{both}
use Rattle.proof_run_steps.specs.teids.Given.{GiveOnce}

module _ (reading : Reading) (n : Numbering) (ue : UeId) (bearer : BearerId) (sn : SnBits) (quota : ℕ) where
  -- what stands on the bearer's tunnels and on its terminal's radio down reports only what the model up carried
  abbrev pub ReportsDownAreTrueAt : Point → Type 0
  ReportsDownAreTrueAt p = ReportsDownAreTrue ue bearer p.up.reached p.state

  -- of the orders of a CU-UP: that an SN status says what was carried up
  abbrev pub AssumesStatuses : (p q : Point) → whole.Step reading n ue bearer sn quota p q → Type 0
  AssumesStatuses p q (whole.a_cu_up a) =
      AllAssumeStatus ue bearer p.up (contexts_of n ue bearer p.state.units) (final_asks n ue bearer p.state a.gnb a.number a.cause a.input a.beside)
  AssumesStatuses p q step = Unit {0}

  -- the terminal acts, and of a status report nothing is assumed
  pub record UeActs (p q : Point) : Type 0 where
    pub terminal : UeNode
    pub there : ue_of p.state.units ue ≡ Some terminal
    pub some : 0 < terminal.plan.quota
    pub event : Event
    pub cause : RunCause
    pub input : Input Token Pdu
    pub outputs : List (Output (Message Token) Pdu)
    pub left : UeNode
    pub to : Option ℕ
    pub acts : IsUeStep reading event p.state q.state ue terminal left cause input outputs
    pub acted : IsActed (plain_world reading) event p.state cause (map (written_put (sn_of p.state)) outputs) (with_ue p.state.units ue left)
    pub assumed : AssumedBesides terminal (both p) bearer to input
    pub down : q.down ≡ down.run p.down (received_by terminal (both p) bearer to input).down
    pub up : q.up ≡ up.run p.up (received_by terminal (both p) bearer to input).up

  pub data Step (p q : Point) : Type 0 where
    the_terminal : (acts : UeActs p q) → Step p q
    all_else : (step : whole.Step reading n ue bearer sn quota p q) → AssumesStatuses p q step → Step p q

  -- one after another, each to a state that comes after the one before
  pub data Steps : Point → Point → Type 0 where
    not_yet : (p : Point) → Steps p p
    further : (p q r : Point) → Steps p q → IsFair q.state → IsFair r.state → GiveOnce q.state.units r.state.units → Step q r → Steps p r
