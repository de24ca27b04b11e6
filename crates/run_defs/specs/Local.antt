-- That nothing passes but over the links, and that a COUNT is a place among what was offered. Told of the steps of any run; how control
-- messages are spelled is an argument.
use Rattle.std.specs.Prelude.{ℕ, ◌≡◌, ◌==◌, Bool, true, false, List, [], ◌∷◌, ◌++◌, map, Option, Some, None, slice_get, Any, All, ◌⊎◌, if◌then◌else◌}
use Rattle.std.specs.List.{flat_map, list_any}
use Rattle.gnb_types.specs.declared.names.NodeId.{NodeId}
use Rattle.gnb_types.specs.declared.names.SnBits.{SnBits}
use Rattle.gnb_types.specs.declared.names.SnBits.TheVariants.{Len12}
use Rattle.gnb_types.specs.declared.names.UeId.{UeId}
use Rattle.gnb_types.specs.declared.keys.EntityKey.{EntityKey}
use Rattle.scenario_text.specs.declared.event.Event.{Event}
use Rattle.scenario_text.specs.declared.event.Event.TheVariants as events
use Rattle.scenario_text.specs.declared.line.Link.{Link}
use Rattle.scenario_text.specs.declared.line.Item.{Item}
use Rattle.run_defs.specs.Lines.{RunLine, put_item, got_item, put_message, delivers}
use Rattle.run_defs.specs.States.{Lengths, RunStep}
use Rattle.run_defs.specs.Runs.{Happened}
use Rattle.run_defs.specs.Said.{same_entity, is_refusal, lines_in, offered_by, Offered}
use Rattle.run_defs.specs.Carried.{Carries, IsLaidOut}

abbrev pub item_key : Item → EntityKey
item_key item = record { ue = item.ue; bearer = item.bearer; dir = item.dir }

-- a step with its event, and whether that was refused
pub record Act (M : Type 0) : Type 0 where
  pub event : Event
  pub refused : Bool
  pub step : RunStep M

-- ---- a packet was at a node: it was offered there, or stands in an item that the node got

abbrev pub WasOffered : {M : Type 0} → NodeId → EntityKey → List ℕ → Act M → Type 0
WasOffered node key packet act = (act.step.actor ≡ Some node) × (act.refused ≡ false) × (offered_by key act.event ≡ packet ∷ [])

abbrev pub IsGotWith : {M : Type 0} → Lengths → EntityKey → List ℕ → RunLine M → Type 0
IsGotWith sn key packet (got_item link item) = (same_entity key (item_key item) ≡ true) × Carries (sn item.ue) link item packet
IsGotWith sn key packet line = ⊥

abbrev pub WasGot : {M : Type 0} → Lengths → NodeId → EntityKey → List ℕ → Act M → Type 0
WasGot sn node key packet act = (act.step.actor ≡ Some node) × Any (IsGotWith sn key packet) act.step.lines

abbrev pub WasAt : {M : Type 0} → Lengths → List (Act M) → NodeId → EntityKey → List ℕ → Type 0
WasAt sn acts node key packet = Any (λ act. WasOffered node key packet act ⊎ WasGot sn node key packet act) acts

-- ---- Local: what a unit puts has the octets of its link, and a packet in it, or one that is delivered, was at the unit, in this step or
-- an earlier one; and a control message is spelled as one of the interface

abbrev pub IsLocalLine : {M : Type 0} → Lengths → (NodeId → NodeId → M → Type 0) → List (Act M) → NodeId → RunLine M → Type 0
IsLocalLine sn IsSpelled acts actor (put_item link item) =
    IsLaidOut (sn item.ue) actor link item
    × ((packet : List ℕ) → Carries (sn item.ue) link item packet → WasAt sn acts actor (item_key item) packet)
IsLocalLine sn IsSpelled acts actor (delivers key count packet) = WasAt sn acts actor key packet
IsLocalLine sn IsSpelled acts actor (put_message number control_message) = (control_message.from ≡ actor) × IsSpelled actor control_message.to control_message.message
IsLocalLine sn IsSpelled acts actor line = Unit {0}

-- an event without an acting unit puts and delivers nothing
abbrev pub puts_something : {M : Type 0} → RunLine M → Bool
puts_something (put_item link item) = true
puts_something (put_message number control_message) = true
puts_something (delivers key count packet) = true
puts_something line = false

abbrev pub IsLocalBy : {M : Type 0} → Lengths → (NodeId → NodeId → M → Type 0) → List (Act M) → Option NodeId → List (RunLine M) → Type 0
IsLocalBy sn IsSpelled acts None lines = list_any puts_something lines ≡ false
IsLocalBy sn IsSpelled acts (Some actor) lines = All (IsLocalLine sn IsSpelled acts actor) lines

abbrev pub LocalFrom : {M : Type 0} → Lengths → (NodeId → NodeId → M → Type 0) → List (Act M) → List (Act M) → Type 0
LocalFrom sn IsSpelled past [] = Unit {0}
LocalFrom sn IsSpelled past (act ∷ acts) =
    IsLocalBy sn IsSpelled (past ++ act ∷ []) act.step.actor act.step.lines × LocalFrom sn IsSpelled (past ++ act ∷ []) acts

-- ---- a COUNT that is shown is the place, counted from 0, of the packet among those offered so far

abbrev pub ShowsOffered : Lengths → List (List ℕ) → Link → Item → Option ℕ → Type 0
ShowsOffered sn offered link item None = Unit {0}
ShowsOffered sn offered link item (Some count) =
    (packet : List ℕ) → Carries (sn item.ue) link item packet → slice_get offered count ≡ Some packet

abbrev pub acts_of_event : {M : Type 0} → Happened M → List (Act M)
acts_of_event h = map (λ step. record { event = h.event; refused = list_any is_refusal (lines_in h.steps); step = step }) h.steps

abbrev pub acts_of : {M : Type 0} → List (Happened M) → List (Act M)
acts_of happened = flat_map acts_of_event happened

-- by the event that set the terminal up
abbrev pub sn_by : UeId → Event → Option SnBits
sn_by ue (events.Static plan) = if plan.ue.0 == ue.0 then Some plan.sn else None
sn_by ue (events.Attach plan) = if plan.ue.0 == ue.0 then Some plan.sn else None
sn_by ue event = None

abbrev pub sn_or : Option SnBits → SnBits → SnBits
sn_or None later = later
sn_or (Some sn) later = sn

abbrev pub sn_in : {M : Type 0} → List (Happened M) → Lengths
sn_in [] ue = Len12
sn_in (h ∷ happened) ue =
    if list_any is_refusal (lines_in h.steps) then sn_in happened ue else sn_or (sn_by ue h.event) (sn_in happened ue)

abbrev pub Local : {M : Type 0} → (NodeId → NodeId → M → Type 0) → List (Happened M) → Type 0
Local IsSpelled happened = LocalFrom (sn_in happened) IsSpelled [] (acts_of happened)

abbrev pub IsPlaceLine : {M : Type 0} → Lengths → List (Happened M) → RunLine M → Type 0
IsPlaceLine sn past (put_item link item) = ShowsOffered sn (Offered (item_key item) past) link item item.count
IsPlaceLine sn past (got_item link item) = ShowsOffered sn (Offered (item_key item) past) link item item.count
IsPlaceLine sn past (delivers key count packet) = slice_get (Offered key past) count ≡ Some packet
IsPlaceLine sn past line = Unit {0}

abbrev pub CountMeansFrom : {M : Type 0} → Lengths → List (Happened M) → List (Happened M) → Type 0
CountMeansFrom sn past [] = Unit {0}
CountMeansFrom sn past (h ∷ happened) =
    All (IsPlaceLine sn (past ++ h ∷ [])) (lines_in h.steps) × CountMeansFrom sn (past ++ h ∷ []) happened

abbrev pub CountMeans : {M : Type 0} → List (Happened M) → Type 0
CountMeans happened = CountMeansFrom (sn_in happened) [] happened
