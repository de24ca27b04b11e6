-- What is said of a transcript: what was offered and delivered, and that links keep their order. Told of the steps of any run.
use Rattle.std.specs.Prelude.{ℕ, ◌≡◌, ◌+◌, ◌-◌, ◌==◌, Bool, true, false, ◌&&◌, if◌then◌else◌, List, [], ◌∷◌, ◌++◌, length, drop, Some, slice_get}
use Rattle.std.specs.List.{flat_map, list_any}
use Rattle.std.specs.Ordering.{eq_by_cmp}
use Rattle.gnb_types.specs.declared.keys.EntityKey.{EntityKey}
use Rattle.gnb_types.specs.Orders.{entity_cmp, node_cmp}
use Rattle.scenario_text.specs.declared.event.Event.{Event}
use Rattle.scenario_text.specs.declared.event.Event.TheVariants as events
use Rattle.scenario_text.specs.declared.line.Link.{Link}
use Rattle.scenario_text.specs.declared.line.Link.TheVariants.{Tunnel, Radio}
use Rattle.scenario_text.specs.declared.line.Item.{Item}
use Rattle.run_defs.specs.Lines.{ControlMessage, RunLine, put_item, got_item, put_message, got_message, delivers, lost_items, was_refused}
use Rattle.run_defs.specs.States.{RunStep}
use Rattle.run_defs.specs.Runs.{Happened}

-- ---- offered, delivered, and the COUNTs of what was delivered

abbrev pub same_entity : EntityKey → EntityKey → Bool
same_entity a b = eq_by_cmp entity_cmp a b

abbrev pub is_refusal : {M : Type 0} → RunLine M → Bool
is_refusal (was_refused reason) = true
is_refusal line = false

abbrev pub lines_in : {M : Type 0} → List (RunStep M) → List (RunLine M)
lines_in steps = flat_map (λ step. step.lines) steps

abbrev pub offered_by : EntityKey → Event → List (List ℕ)
offered_by key (events.Offer ue bearer dir packet) =
    if same_entity key (record { ue = ue; bearer = bearer; dir = dir }) then packet ∷ [] else []
offered_by key event = []

-- the packets of the offers that were not refused
abbrev pub Offered : {M : Type 0} → EntityKey → List (Happened M) → List (List ℕ)
Offered key happened = flat_map (λ h. if list_any is_refusal (lines_in h.steps) then [] else offered_by key h.event) happened

abbrev pub all_lines : {M : Type 0} → List (Happened M) → List (RunLine M)
all_lines happened = flat_map (λ h. lines_in h.steps) happened

abbrev pub packets_of : {M : Type 0} → EntityKey → RunLine M → List (List ℕ)
packets_of key (delivers other count packet) = if same_entity key other then packet ∷ [] else []
packets_of key line = []

abbrev pub counts_of : {M : Type 0} → EntityKey → RunLine M → List ℕ
counts_of key (delivers other count packet) = if same_entity key other then count ∷ [] else []
counts_of key line = []

abbrev pub Delivered : {M : Type 0} → EntityKey → List (Happened M) → List (List ℕ)
Delivered key happened = flat_map (packets_of key) (all_lines happened)

abbrev pub Counts : {M : Type 0} → EntityKey → List (Happened M) → List ℕ
Counts key happened = flat_map (counts_of key) (all_lines happened)

-- ---- links: what was put and neither taken nor lost, as a function of the lines alone

abbrev pub same_link : Link → Link → Bool
same_link (Tunnel a m) (Tunnel b n) = eq_by_cmp node_cmp a b && m == n
same_link (Radio u b d e) (Radio v c f g) =
    same_entity (record { ue = u; bearer = b; dir = d }) (record { ue = v; bearer = c; dir = f }) && e == g
same_link a b = false

-- what stands on each link, and the control messages that were put
pub record OnLinks (M : Type 0) : Type 0 where
  pub items : Link → List Item
  pub control_messages : List (ControlMessage M)

abbrev pub no_items : {M : Type 0} → OnLinks M
no_items = record { items = λ link. []; control_messages = [] }

abbrev pub with_items : {M : Type 0} → OnLinks M → Link → List Item → OnLinks M
with_items on link items = record on { items = λ other. if same_link link other then items else on.items other }

-- a radio loses all that it holds, a tunnel as many of the oldest as are told
abbrev pub after_loss : Link → ℕ → List Item → List Item
after_loss (Tunnel end teid) count items = drop count items
after_loss (Radio ue bearer dir epoch) count items = []

abbrev pub after_line : {M : Type 0} → OnLinks M → RunLine M → OnLinks M
after_line on (put_item link item) = with_items on link (on.items link ++ item ∷ [])
after_line on (got_item link item) = with_items on link (drop 1 (on.items link))
after_line on (lost_items link count) = with_items on link (after_loss link count (on.items link))
after_line on (put_message number control_message) = record on { control_messages = on.control_messages ++ control_message ∷ [] }
after_line on line = on

-- a line that takes something repeats what was put: the oldest item of its link, and the message of its number
abbrev pub IsOnWire : {M : Type 0} → OnLinks M → RunLine M → Type 0
IsOnWire on (got_item link item) = slice_get (on.items link) 0 ≡ Some item
IsOnWire on (put_message number control_message) = number ≡ length on.control_messages + 1
IsOnWire on (got_message number control_message) = (0 ≡ number → ⊥) × (slice_get on.control_messages (number - 1) ≡ Some control_message)
IsOnWire on line = Unit {0}

abbrev pub WiresFrom : {M : Type 0} → OnLinks M → List (RunLine M) → Type 0
WiresFrom on [] = Unit {0}
WiresFrom on (line ∷ lines) = IsOnWire on line × WiresFrom (after_line on line) lines

abbrev pub Wires : {M : Type 0} → List (RunLine M) → Type 0
Wires lines = WiresFrom no_items lines
