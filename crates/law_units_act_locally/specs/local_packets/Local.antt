-- A unit puts and delivers no packet of a terminal, bearer and direction but those that were offered at it for them, or got by it for
-- them, in the same step or before: told of the steps of any run.
use Rattle.std.specs.Prelude.{ℕ, ◌≡◌, List, [], ◌∷◌, Option, Some, None, ◌⊎◌}
use Rattle.std.specs.List.{AllByRecursion}
use Rattle.gnb_types.specs.declared.names.NodeId.{NodeId}
use Rattle.gnb_types.specs.declared.keys.EntityKey.{EntityKey}
use Rattle.scenario_text.specs.declared.event.Event.{Event}
use Rattle.scenario_text.specs.declared.event.Event.TheVariants as events
use Rattle.run_defs.specs.Lines.{RunLine, put_item, got_item, delivers}
use Rattle.run_defs.specs.Local.{Act, item_key}
use Rattle.run_defs.specs.States.{entity}
use Rattle.law_units_act_locally.specs.local_packets.Says.{Saying}

-- P holds of one of them
abbrev pub OneOf : {X : Type 0} → (X → Type 0) → List X → Type 0
OneOf P [] = ⊥
OneOf P (x ∷ xs) = P x ⊎ OneOf P xs

-- of the packet, if there is one
abbrev pub IfAny : (List ℕ → Type 0) → Option (List ℕ) → Type 0
IfAny P None = Unit {0}
IfAny P (Some packet) = P packet

-- ---- a packet was at a node for this terminal, bearer and direction: it was offered there, or stood in an item that the node got (an offer
-- that is refused has no acting node)

abbrev pub IsOffered : EntityKey → List ℕ → Event → Type 0
IsOffered key packet (events.Offer ue bearer dir p) = (entity ue bearer dir ≡ key) × (p ≡ packet)
IsOffered key packet event = ⊥

abbrev pub WasOffered : {M : Type 0} → NodeId → EntityKey → List ℕ → Act M → Type 0
WasOffered node key packet act = (act.step.actor ≡ Some node) × IsOffered key packet act.event

module _ (Says : Saying) where
  abbrev pub IsGotWith : {M : Type 0} → EntityKey → List ℕ → RunLine M → Type 0
  IsGotWith key packet (got_item link item) = (item_key item ≡ key) × Says link item (Some packet)
  IsGotWith key packet line = ⊥

  abbrev pub WasGot : {M : Type 0} → NodeId → EntityKey → List ℕ → Act M → Type 0
  WasGot node key packet act = (act.step.actor ≡ Some node) × OneOf (IsGotWith key packet) act.step.lines

  abbrev pub WasAt : {M : Type 0} → List (Act M) → NodeId → EntityKey → List ℕ → Type 0
  WasAt acts node key packet = OneOf (λ act. WasOffered node key packet act ⊎ WasGot node key packet act) acts

  -- ---- what is put and delivered was there, where what a node puts says this; a step without an acting node puts and delivers nothing
  -- (`law_tunnels_are_owned::laid_out`)

  module _ (Puts : NodeId → Saying) where
    abbrev pub IsLocalLine : {M : Type 0} → List (Act M) → NodeId → RunLine M → Type 0
    IsLocalLine acts actor (put_item link item) = (said : Option (List ℕ)) × Puts actor link item said × IfAny (WasAt acts actor (item_key item)) said
    IsLocalLine acts actor (delivers key count packet) = WasAt acts actor key packet
    IsLocalLine acts actor line = Unit {0}

    abbrev pub IsLocalBy : {M : Type 0} → List (Act M) → Option NodeId → List (RunLine M) → Type 0
    IsLocalBy acts None lines = Unit {0}
    IsLocalBy acts (Some actor) lines = AllByRecursion (IsLocalLine acts actor) lines

    -- of steps one after another; those before, the last one first
    abbrev pub LocalFrom : {M : Type 0} → List (Act M) → List (Act M) → Type 0
    LocalFrom past [] = Unit {0}
    LocalFrom past (act ∷ acts) = IsLocalBy (act ∷ past) act.step.actor act.step.lines × LocalFrom (act ∷ past) acts
