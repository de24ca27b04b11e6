-- Looking back: what the lines so far say. A list `past` has the newest line first, and each question to it is a recursion
-- over the whole list.
use Rattle.std.specs.Prelude.{ℕ, ◌+◌, ◌==◌, ◌&&◌, Bool, true, false, if◌then◌else◌, List, [], ◌∷◌, ◌++◌, drop}
use Rattle.std.specs.List.{flat_map}
use Rattle.std.specs.Ordering.{eq_by_cmp}
use Rattle.gnb_types.specs.declared.names.UeId.{UeId}
use Rattle.gnb_types.specs.declared.keys.EntityKey.{EntityKey}
use Rattle.gnb_types.specs.declared.plans.Plan.{Plan}
use Rattle.gnb_types.specs.Orders.{entity_cmp, node_cmp}
use Rattle.scenario_text.specs.declared.event.Event.{Event}
use Rattle.scenario_text.specs.declared.event.Event.TheVariants as events
use Rattle.scenario_text.specs.declared.line.Link.{Link}
use Rattle.scenario_text.specs.declared.line.Link.TheVariants.{Tunnel, Radio}
use Rattle.scenario_text.specs.declared.line.Item.{Item}
use Rattle.scenario_text.specs.declared.line.Message.{Message}
use Rattle.scenario_text.specs.declared.line.OutLine.TheVariants as lines
use Rattle.transcript_defs.specs.declared.line.TextLine.{TextLine}
use Rattle.transcript_defs.specs.declared.line.TextLine.TheVariants.{Printed}

-- ---- names

abbrev pub same_entity : EntityKey → EntityKey → Bool
same_entity a b = eq_by_cmp entity_cmp a b

abbrev pub same_link : Link → Link → Bool
same_link (Tunnel a m) (Tunnel b n) = eq_by_cmp node_cmp a b && m == n
same_link (Radio u b d e) (Radio v c f g) =
    same_entity (record { ue = u; bearer = b; dir = d }) (record { ue = v; bearer = c; dir = f }) && e == g
same_link a b = false

-- ---- events

-- the lines that show an event
unfoldable pub events_of : List TextLine → ℕ
events_of [] = 0
events_of (Printed (lines.Happens event) ∷ past) = events_of past + 1
events_of (line ∷ past) = events_of past

abbrev pub is_refusal : TextLine → Bool
is_refusal (Printed (lines.Refused reason)) = true
is_refusal line = false

-- an event is accepted where the line after it isn't a refusal
abbrev pub accepted_at : TextLine → TextLine → List Event
accepted_at (Printed (lines.Happens event)) next = if is_refusal next then [] else event ∷ []
accepted_at line next = []

-- the accepted events, the oldest first; `next` is the line after the newest one of `past`
unfoldable pub accepted : TextLine → List TextLine → List Event
accepted next [] = []
accepted next (line ∷ past) = accepted line past ++ accepted_at line next

abbrev pub offer_at : EntityKey → Event → List (List ℕ)
offer_at key (events.Offer ue bearer dir packet) =
    if same_entity key (record { ue = ue; bearer = bearer; dir = dir }) then packet ∷ [] else []
offer_at key event = []

-- the packets that these events offer on a bearer and direction
unfoldable pub offered : EntityKey → List Event → List (List ℕ)
offered key happened = flat_map (offer_at key) happened

abbrev pub plan_at : UeId → Event → List Plan
plan_at ue (events.Static plan) = if plan.ue.0 == ue.0 then plan ∷ [] else []
plan_at ue (events.Attach plan) = if plan.ue.0 == ue.0 then plan ∷ [] else []
plan_at ue event = []

-- what these events set of a terminal; the first counts
unfoldable pub plans : UeId → List Event → List Plan
plans ue happened = flat_map (plan_at ue) happened

-- ---- links

-- a radio loses all that it holds, a tunnel as many of the oldest as are told
abbrev pub after_loss : Link → ℕ → List Item → List Item
after_loss (Tunnel end teid) count items = drop count items
after_loss (Radio ue bearer dir epoch) count items = []

abbrev pub after_line : Link → TextLine → List Item → List Item
after_line link (Printed (lines.Put other item)) items = if same_link link other then items ++ item ∷ [] else items
after_line link (Printed (lines.Got other item)) items = if same_link link other then drop 1 items else items
after_line link (Printed (lines.Lost other count)) items = if same_link link other then after_loss link count items else items
after_line link line items = items

-- the items of a tunnel or radio that are neither taken nor lost, the oldest first
unfoldable pub standing : Link → List TextLine → List Item
standing link [] = []
standing link (line ∷ past) = after_line link line (standing link past)

abbrev pub message_at : TextLine → List Message
message_at (Printed (lines.PutMessage message)) = message ∷ []
message_at line = []

-- the control messages that were put, the oldest first
unfoldable pub messages : List TextLine → List Message
messages [] = []
messages (line ∷ past) = messages past ++ message_at line

-- ---- deliveries

abbrev pub delivery_at : EntityKey → TextLine → List (List ℕ)
delivery_at key (Printed (lines.Deliver ue bearer dir count packet)) =
    if same_entity key (record { ue = ue; bearer = bearer; dir = dir }) then packet ∷ [] else []
delivery_at key line = []

-- the packets that were delivered, the oldest first
unfoldable pub delivered : EntityKey → List TextLine → List (List ℕ)
delivered key [] = []
delivered key (line ∷ past) = delivered key past ++ delivery_at key line
