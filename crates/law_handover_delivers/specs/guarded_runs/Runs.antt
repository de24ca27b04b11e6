-- Steps of a run beside the models of one bearer, as those of `whole_runs`, of which what is assumed of control is asked, and nothing of a
-- packet or a status report that the terminal takes; and all that is so of the states on the way.
use Rattle.std.specs.Prelude.{◌≡◌, ℕ, ◌<◌, List, map, Option, Some}
use Rattle.gnb_types.specs.declared.names.SnBits.{SnBits}
use Rattle.gnb_types.specs.declared.names.UeId.{UeId}
use Rattle.gnb_types.specs.declared.names.BearerId.{BearerId}
use Rattle.message_types.specs.declared.rrc.Token.{Token}
use Rattle.scenario_text.specs.declared.event.Event.{Event}
use Rattle.unit_defs.specs.Ways.{Message, Pdu, Input, Output}
use Rattle.unit_defs.specs.Ue.{UeNode}
use Rattle.run_defs.specs.Units.{ue_of, with_ue}
use Rattle.run_defs.specs.Written.{written_put}
use Rattle.run_defs.specs.States.{sn_of}
use Rattle.run_defs.specs.Runs.{Reading, plain_world}
use Rattle.bearer_defs.specs.chain_defs.Orders as down
use Rattle.bearer_defs.specs.uplink_defs.Orders as up
use Rattle.proof_bearer_refinement.specs.uplink_radio.Radio.{RunCause, IsUeStep}
use Rattle.proof_bearer_refinement.specs.downlink_radio.Received.{received_by}
use Rattle.law_handover_delivers.specs.down_reports_elsewhere.Assumed.{AssumedArrivals}
use Rattle.law_handover_delivers.specs.down_report_frames.Statuses.{UpCameAbout}
use Rattle.law_handover_delivers.specs.down_report_runs.Steps.{ReportsDownAreTrueAt, AssumesStatuses}
use Rattle.proof_bearer_refinement.specs.run_bearers.Bearers.{Numbering}
use Rattle.law_terminals_are_isolated.specs.own_steps.Own.{IsActed}
use Rattle.proof_bearer_refinement.specs.runs.Steps.{Point}
use Rattle.proof_bearer_refinement.specs.runs.Fair.{IsFair}
use Rattle.law_handover_delivers.specs.whole_runs.Whole as whole
use Rattle.law_handover_delivers.specs.whole_runs.Whole.{both, IsWhole}
use Rattle.law_handover_delivers.specs.downlink_path_steps.Way.{IsOnDownlinkPath, AssumesFrame, AssumesSwitches}
use Rattle.proof_run_steps.specs.teids.Given.{GiveOnce}

module _ (reading : Reading) (n : Numbering) (ue : UeId) (bearer : BearerId) (sn : SnBits) (quota : ℕ) where
  -- all that is so of a state on the way: what `whole_runs` carries; the way of packets down; that the model up came about by orders that
  -- asked what they do; and that what stands on links and reports to the terminal is true
  pub record IsCarried (p : Point) : Type 0 where
    pub all : IsWhole reading n ue bearer sn quota p
    pub way : IsOnDownlinkPath n ue bearer p
    pub came : UpCameAbout p.up
    pub told : ReportsDownAreTrueAt reading n ue bearer sn quota p

  -- the terminal acts, by the orders of its input: owed is where an arrival leads
  pub record TerminalActs (p q : Point) : Type 0 where
    pub terminal : UeNode
    pub there : ue_of p.state.units ue ≡ Some terminal
    pub some : 0 < terminal.plan.quota
    pub event : Event
    pub cause : RunCause
    pub input : Input Token Pdu
    pub outputs : List (Output (Message Token) Pdu)
    pub left : UeNode
    pub to : Option ℕ
    pub acts : IsUeStep reading event p.state q.state ue terminal left cause input outputs
    pub acted : IsActed (plain_world reading) event p.state cause (map (written_put (sn_of p.state)) outputs) (with_ue p.state.units ue left)
    pub assumed : AssumedArrivals terminal (both p) to input
    pub down : q.down ≡ down.run p.down (received_by terminal (both p) bearer to input).down
    pub up : q.up ≡ up.run p.up (received_by terminal (both p) bearer to input).up

  -- what is assumed of each other step: of the way of packets down, and of an SN status
  abbrev pub AssumesDownlinkPath : (p q : Point) → whole.Step reading n ue bearer sn quota p q → Type 0
  AssumesDownlinkPath p q (whole.a_cu_up a) = AssumesSwitches n ue bearer p a.gnb a.number a.input a.beside.epoch
  AssumesDownlinkPath p q (whole.a_du a) = AssumesFrame n ue bearer p a.gnb a.number a.input
  AssumesDownlinkPath p q (whole.the_terminal a) = ⊥
  AssumesDownlinkPath p q step = Unit {0}

  pub data Step (p q : Point) : Type 0 where
    the_terminal : (acts : TerminalActs p q) → Step p q
    all_else : (step : whole.Step reading n ue bearer sn quota p q) → (way : AssumesDownlinkPath p q step) → (statuses : AssumesStatuses reading n ue bearer sn quota p q step)
        → Step p q

  -- one after another, each to a state that comes after the one before
  pub data Steps : Point → Point → Type 0 where
    not_yet : (p : Point) → Steps p p
    further : (p q r : Point) → Steps p q → IsFair q.state → IsFair r.state → GiveOnce q.state.units r.state.units → Step q r → Steps p r
