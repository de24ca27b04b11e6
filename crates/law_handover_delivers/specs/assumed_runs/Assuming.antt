-- Steps of a run beside the models of one bearer, each to a later state of the run, where of a CU-UP's step only what is assumed is asked.
use Rattle.std.specs.Prelude.{◌≡◌, ℕ, List, None}
use Rattle.gnb_types.specs.declared.names.Gnb.{Gnb}
use Rattle.gnb_types.specs.declared.names.SnBits.{SnBits}
use Rattle.gnb_types.specs.declared.names.UeId.{UeId}
use Rattle.gnb_types.specs.declared.names.BearerId.{BearerId}
use Rattle.message_types.specs.declared.rrc.Token.{Token}
use Rattle.unit_defs.specs.Ways.{Message, Pdu, Input, Output}
use Rattle.run_defs.specs.Runs.{Reading}
use Rattle.proof_cu_up_orders.specs.bearer_orders.Happenings.{Beside}
use Rattle.proof_bearer_refinement.specs.run_unit_inputs.Happenings.{CuUpRecord}
use Rattle.proof_bearer_refinement.specs.run_bearers.Bearers.{Numbering, contexts_of}
use Rattle.proof_bearer_refinement.specs.refinement_facts.Asked.{RunCause, IsUpStep, down_after, up_after}
use Rattle.proof_bearer_refinement.specs.runs.Steps.{Point, DuActs, CoreOffers, CoreTakes, StaysInFrame}
use Rattle.proof_bearer_refinement.specs.runs.Fair.{IsFair}
use Rattle.law_handover_delivers.specs.assumptions.WellLinked.{AreWellLinked}
use Rattle.law_handover_delivers.specs.assumptions.Assumed.{AllAssume, final_asks}
use Rattle.proof_run_steps.specs.teids.Given.{GiveOnce}

-- 0 is no context's number
abbrev pub NoneIsZero : Numbering → Type 0
NoneIsZero n = n.place_of 0 ≡ None

module _ (reading : Reading) (n : Numbering) (ue : UeId) (bearer : BearerId) (sn : SnBits) (quota : ℕ) where
  -- the bearer's contexts are well-linked
  abbrev pub IsWellLinkedAt : Point → Type 0
  IsWellLinkedAt p = AreWellLinked n ue bearer p.state.units p.down p.up (contexts_of n ue bearer p.state.units)

  -- a CU-UP acts, and what is assumed of its orders is so
  pub record CuUpActs (p q : Point) : Type 0 where
    pub gnb : Gnb
    pub number : ℕ
    pub cause : RunCause
    pub input : Input Token Pdu
    pub outputs : List (Output (Message Token) Pdu)
    pub left : CuUpRecord
    pub beside : Beside
    pub acts : IsUpStep reading p.state q.state gnb number cause input outputs left
    pub assumes : AllAssume n ue bearer p.state.units sn quota p.down p.up (contexts_of n ue bearer p.state.units)
        (final_asks n ue bearer p.state gnb number cause input beside)
    pub down : q.down ≡ down_after n ue bearer p.state.units sn quota p.down (contexts_of n ue bearer p.state.units)
        (final_asks n ue bearer p.state gnb number cause input beside)
    pub up : q.up ≡ up_after n ue bearer p.state.units sn quota p.up (contexts_of n ue bearer p.state.units)
        (final_asks n ue bearer p.state gnb number cause input beside)

  -- all other steps are those of `proof_bearer_refinement::runs`
  pub data Step (p q : Point) : Type 0 where
    a_cu_up : (acts : CuUpActs p q) → Step p q
    a_du : (acts : DuActs reading n ue bearer sn quota p q) → Step p q
    an_offer : (offers : CoreOffers reading n ue bearer sn quota p q) → Step p q
    a_message : (takes : CoreTakes reading n ue bearer sn quota p q) → Step p q
    all_else : (stays : StaysInFrame reading n ue bearer sn quota p q) → Step p q

  -- one after another, each to a state that comes after the one before
  pub data Steps : Point → Point → Type 0 where
    not_yet : (p : Point) → Steps p p
    further : (p q r : Point) → Steps p q → IsFair q.state → IsFair r.state → GiveOnce q.state.units r.state.units → Step q r → Steps p r
