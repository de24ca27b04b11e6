-- Where the right to switch a bearer to one TEID of a DU is: given by the DU in an answer, known to its CU-CP, named in a request that waits,
-- named in a request that was put; it is never in two of these places.
use Rattle.std.specs.Prelude.{ℕ, ◌≡◌, List, Option, Some}
use Rattle.std.specs.List.{AllByRecursion}
use Rattle.gnb_types.specs.declared.names.Gnb.{Gnb}
use Rattle.gnb_types.specs.declared.names.NodeId.{NodeId}
use Rattle.gnb_types.specs.declared.names.NodeId.TheVariants.{Du}
use Rattle.gnb_types.specs.declared.names.UeId.{UeId}
use Rattle.gnb_types.specs.declared.names.BearerId.{BearerId}
use Rattle.gnb_types.specs.declared.keys.Channel.{Channel}
use Rattle.gnb_types.specs.declared.plans.Tunnel.{Tunnel}
use Rattle.message_types.specs.declared.f1.F1.TheVariants as f1s
use Rattle.message_types.specs.declared.e1.E1Message.TheVariants as e1s
use Rattle.unit_defs.specs.Ways.{Message, f1, e1}
use Rattle.unit_defs.specs.Messages.{mode_switch, channel}

-- a TEID of a DU
pub record DownlinkTeid : Type 0 where
  pub gnb : Gnb
  pub du : ℕ
  pub teid : ℕ

abbrev pub du_of_teid : DownlinkTeid → NodeId
du_of_teid t = Du t.gnb t.du

-- the answer in which the DU gave it: on which channel, to the request of which instance, and for which bearer
pub record Grant : Type 0 where
  pub channel : Channel
  pub instance : ℕ
  pub bearer : BearerId

pub data Place : Type 0 where
  -- nowhere but at the DU and in its answer
  away : Place
  -- at the CU-CP: with a terminal's attempt; or in a request that waits, with a mark of its own
  known : (ue : ℕ) (bearer : BearerId) → Place
  waits : (channel : Channel) (mark : ℕ) (bearer : BearerId) → Place
  -- in the request of this instance to a CU-UP
  asked : (channel : Channel) (instance : ℕ) (bearer : BearerId) → Place
  -- with a terminal that was set up without messages
  placed : Place

-- what became of a TEID so far
pub record Story : Type 0 where
  pub grant : Option Grant
  pub place : Place

-- each tunnel of a list that has the TEID puts it there; and each was given in this answer
abbrev pub Gives : ℕ → Place → (BearerId → Place) → List Tunnel → Type 0
Gives teid p place tunnels = AllByRecursion (λ (x : Tunnel). x.teid ≡ teid → p ≡ place x.bearer) tunnels

abbrev pub Granted : ℕ → Option Grant → Channel → ℕ → List Tunnel → Type 0
Granted teid g ch instance tunnels =
    AllByRecursion (λ (x : Tunnel). x.teid ≡ teid → g ≡ Some (record { channel = ch; instance = instance; bearer = x.bearer })) tunnels

-- ---- the messages that name downlink TEIDs: requests that switch bearers, with terminal, instance, number of the DU, and tunnels;
-- and a DU's answers, with terminal, instance and tunnels

abbrev pub OnSwitch : {C : Type 0} → (UeId → ℕ → ℕ → List Tunnel → Type 0) → Message C → Type 0
OnSwitch F (e1 (e1s.BearerContextModificationRequest ue instance (Some downlinks) mode peer down up ss (Some du))) =
    mode ≡ mode_switch → F ue instance du downlinks
OnSwitch F message = Unit {0}

abbrev pub OnAnswer : {C : Type 0} → (UeId → ℕ → List Tunnel → Type 0) → Message C → Type 0
OnAnswer F (f1 (f1s.UeContextSetupResponse ue instance downlinks)) = F ue instance downlinks
OnAnswer F (f1 (f1s.UeContextModificationResponse ue instance downlinks)) = F ue instance downlinks
OnAnswer F message = Unit {0}

abbrev pub NoSwitch : {C : Type 0} → Message C → Type 0
NoSwitch message = OnSwitch (λ ue instance du tunnels. ⊥) message

module _ (t : DownlinkTeid) where
  -- a message of the CU-CP of the DU's gNB, which is put to this node; and one of the DU
  abbrev pub SwitchIs : {C : Type 0} → Place → NodeId → Message C → Type 0
  SwitchIs p up message =
      OnSwitch (λ ue instance du tunnels. du ≡ t.du → Gives t.teid p (asked (channel ue.0 up) instance) tunnels) message

  abbrev pub AnswerIs : {C : Type 0} → Option Grant → NodeId → Message C → Type 0
  AnswerIs g from message = OnAnswer (λ ue instance tunnels. Granted t.teid g (channel ue.0 from) instance tunnels) message

-- ---- a story goes on: what was given stays so, and so does what was asked; what isn't given is nowhere

pub record GoesTo (old new : Story) : Type 0 where
  pub granted : (g : Grant) → old.grant ≡ Some g → new.grant ≡ Some g
  pub asked_stays : (ch : Channel) (i : ℕ) (b : BearerId) → old.place ≡ asked ch i b → new.place ≡ asked ch i b
  pub placed_stays : old.place ≡ placed → new.place ≡ placed
