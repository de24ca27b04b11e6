-- Steps of a run beside the models of one bearer, each to a later state of the run: that of an uplink whose TEID wasn't given yet the model
-- has nothing is asked at the start alone.
use Rattle.std.specs.Prelude.{◌≡◌, ◌≤◌, ℕ, [], List}
use Rattle.gnb_types.specs.declared.names.Gnb.{Gnb}
use Rattle.gnb_types.specs.declared.names.SnBits.{SnBits}
use Rattle.gnb_types.specs.declared.names.UeId.{UeId}
use Rattle.gnb_types.specs.declared.names.BearerId.{BearerId}
use Rattle.message_types.specs.declared.rrc.Token.{Token}
use Rattle.unit_defs.specs.Ways.{Message, Pdu, Input, Output}
use Rattle.run_defs.specs.Units.{cu_up_of}
use Rattle.run_defs.specs.Runs.{Reading}
use Rattle.proof_run_steps.specs.teids.Given.{below, GiveOnce}
use Rattle.bearer_defs.specs.uplink_defs.Models as up_models
use Rattle.proof_cu_up_orders.specs.bearer_orders.Happenings.{Beside}
use Rattle.proof_bearer_refinement.specs.run_unit_inputs.Happenings.{CuUpRecord}
use Rattle.proof_bearer_refinement.specs.run_bearers.Bearers.{Place, Numbering, contexts_of}
use Rattle.proof_bearer_refinement.specs.refinement_facts.Refinements.{RunState}
use Rattle.proof_bearer_refinement.specs.refinement_facts.Asked.{RunCause, IsUpStep, AllAsk, down_after, up_after, step_asks}
use Rattle.proof_bearer_refinement.specs.runs.Steps.{Point, DuActs, CoreOffers, CoreTakes, StaysInFrame}
use Rattle.proof_bearer_refinement.specs.runs.Fair.{IsFair}

-- on an uplink whose TEID its CU-UP has not given yet no context has anything
abbrev pub AreFresh : Numbering → RunState → up_models.Model → Type 0
AreFresh n s u =
    (place : Place) (teid : ℕ) → below (cu_up_of s.units place.gnb place.number).next_teid ≤ teid → (u.members (n.number_of place)).uplink teid ≡ []

module _ (reading : Reading) (n : Numbering) (ue : UeId) (bearer : BearerId) (sn : SnBits) (quota : ℕ) where
  -- a CU-UP acts, and each of its orders asks what it does: of uplinks nothing is asked
  pub record CuUpActs (p q : Point) : Type 0 where
    pub gnb : Gnb
    pub number : ℕ
    pub cause : RunCause
    pub input : Input Token Pdu
    pub outputs : List (Output (Message Token) Pdu)
    pub left : CuUpRecord
    pub beside : Beside
    pub acts : IsUpStep reading p.state q.state gnb number cause input outputs left
    pub asks : AllAsk n ue bearer p.state.units sn quota p.down p.up (contexts_of n ue bearer p.state.units)
        (step_asks n ue bearer p.state gnb number cause input beside)
    pub down : q.down ≡ down_after n ue bearer p.state.units sn quota p.down (contexts_of n ue bearer p.state.units)
        (step_asks n ue bearer p.state gnb number cause input beside)
    pub up : q.up ≡ up_after n ue bearer p.state.units sn quota p.up (contexts_of n ue bearer p.state.units)
        (step_asks n ue bearer p.state gnb number cause input beside)

  -- all other steps are those of `proof_bearer_refinement::runs`
  pub data Step (p q : Point) : Type 0 where
    a_cu_up : (acts : CuUpActs p q) → Step p q
    a_du : (acts : DuActs reading n ue bearer sn quota p q) → Step p q
    an_offer : (offers : CoreOffers reading n ue bearer sn quota p q) → Step p q
    a_message : (takes : CoreTakes reading n ue bearer sn quota p q) → Step p q
    all_else : (stays : StaysInFrame reading n ue bearer sn quota p q) → Step p q

  -- one after another, between fair states, each to one in which all TEIDs stay given
  pub data Steps : Point → Point → Type 0 where
    not_yet : (p : Point) → Steps p p
    further : (p q r : Point) → Steps p q → IsFair q.state → IsFair r.state → GiveOnce q.state.units r.state.units → Step q r → Steps p r
