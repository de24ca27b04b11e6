-- Internal: what accepted events set and offered, beside the events.
use Rattle.std.specs.Prelude.{◌≡◌, ◌++◌, ◌==◌, ℕ, List, [], ◌∷◌, Option, Some, None, slice_get, if◌then◌else◌}
use Rattle.gnb_types.specs.declared.names.UeId.{UeId}
use Rattle.gnb_types.specs.declared.names.SnBits.{SnBits}
use Rattle.gnb_types.specs.declared.keys.EntityKey.{EntityKey}
use Rattle.gnb_types.specs.declared.plans.Plan.{Plan}
use Rattle.gnb_types.specs.Orders.{ue_cmp, entity_cmp}
use Rattle.link_defs.specs.Decoding.{Item as Says}
use Rattle.scenario_text.specs.declared.event.Event.{Event}
use Rattle.scenario_text.specs.declared.line.Link.{Link}
use Rattle.scenario_text.specs.declared.line.Item.{Item}
use Rattle.tables.specs.Tables.{find, at}
use Rattle.transcript_defs.specs.Past.{same_entity, plan_at, offer_at, plans, offered}
use Rattle.transcript_defs.specs.Packets.{Reading}
use Rattle.transcript_check.specs.declared.index.accepted.Accepted.{Accepted}

abbrev pub offered_on : Accepted → EntityKey → List (List ℕ)
offered_on accepted key = at entity_cmp [] accepted.offers key

-- the plans and the offers are those of these events
pub record AreAccepted (happened : List Event) (accepted : Accepted) : Type 0 where
  pub set : (ue : UeId) → find ue_cmp accepted.plans ue ≡ slice_get (plans ue happened) 0
  pub offers : (key : EntityKey) → offered_on accepted key ≡ offered key happened

abbrev pub first_or : Option Plan → Option Plan → Option Plan
first_or None other = other
first_or (Some plan) other = Some plan

-- a plan counts where none is set
abbrev pub SetsPlan : Plan → List (UeId × Plan) → List (UeId × Plan) → Type 0
SetsPlan plan old new =
    (ue : UeId) → find ue_cmp new ue ≡ first_or (find ue_cmp old ue) (if plan.ue.0 == ue.0 then Some plan else None)

-- a packet more is offered
abbrev pub AddsOffer : EntityKey → List ℕ → List (EntityKey × List (List ℕ)) → List (EntityKey × List (List ℕ)) → Type 0
AddsOffer key packet old new =
    (other : EntityKey) → at entity_cmp [] new other
    ≡ (if same_entity other key then at entity_cmp [] old other ++ packet ∷ [] else at entity_cmp [] old other)

-- one event more is accepted
pub record AcceptsEvent (event : Event) (old new : Accepted) : Type 0 where
  pub set : (ue : UeId) → find ue_cmp new.plans ue ≡ first_or (find ue_cmp old.plans ue) (slice_get (plan_at ue event) 0)
  pub offers : (key : EntityKey) → offered_on new key ≡ offered_on old key ++ offer_at key event

-- an item says this, and the numbers of its terminal have so many bits
pub record ReadsAs (happened : List Event) (link : Link) (item : Item) (sn : SnBits) (says : Says) : Type 0 where
  pub reading : Reading happened link item
  pub sn_is : reading.plan.sn ≡ sn
  pub says_is : reading.says ≡ says
