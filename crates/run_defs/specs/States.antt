-- The state of a run, and what the run is told of its units and its links: how a unit answers, and how what it puts is shown.
use Rattle.std.specs.Prelude.{◌==◌, ℕ, Bool, false, not, ◌&&◌, nat_le, List, [], ◌∷◌, ◌++◌, Option, Some, None, is_some}
use Rattle.std.specs.List.{list_any}
use Rattle.gnb_types.specs.declared.names.NodeId.{NodeId}
use Rattle.gnb_types.specs.declared.names.UeId.{UeId}
use Rattle.gnb_types.specs.declared.names.BearerId.{BearerId}
use Rattle.gnb_types.specs.declared.names.Dir.{Dir}
use Rattle.gnb_types.specs.declared.names.SnBits.{SnBits}
use Rattle.gnb_types.specs.declared.names.SnBits.TheVariants.{Len12}
use Rattle.gnb_types.specs.declared.keys.TunnelEnd.{TunnelEnd}
use Rattle.gnb_types.specs.declared.keys.EntityKey.{EntityKey}
use Rattle.gnb_types.specs.declared.plans.Plan.{Plan}
use Rattle.gnb_types.specs.declared.inputs.Order.{Order}
use Rattle.gnb_types.specs.declared.reasons.RefuseReason.{RefuseReason}
use Rattle.gnb_types.specs.Orders.{ue_cmp, entity_cmp}
use Rattle.tables.specs.Tables.{find, put, at}
use Rattle.unit_defs.specs.Ways.{Put}
use Rattle.unit_defs.specs.Core.{CoreRecord, new_core}
use Rattle.run_defs.specs.Lines.{RunLine, was_refused}
use Rattle.run_defs.specs.Units.{Units, new_units}
use Rattle.transport_defs.specs.declared.Item.{Item}
use Rattle.transport_defs.specs.Links.{Bag, no_control_messages, Radio}

-- how many packets of a bearer and direction were offered, numbered and delivered
pub record Book : Type 0 where
  pub offered : ℕ
  pub numbered : ℕ
  pub delivered : ℕ

abbrev pub new_book : Book
new_book = record { offered = 0; numbered = 0; delivered = 0 }

pub record State (M C L P : Type 0) : Type 0 where
  pub units : Units M C
  pub core : CoreRecord M C
  pub bag : Bag M
  pub tunnels : List (TunnelEnd × List (Item L))
  pub radios : List (EntityKey × Radio P)
  -- the epoch whose radios are connected
  pub connected : List (UeId × ℕ)
  -- the terminals that were ever attached, each with its plan, and those that are gone
  pub plans : List (UeId × Plan)
  pub gone : List UeId
  pub books : List (EntityKey × Book)
  pub started : Bool

abbrev pub new_state : {M C L P : Type 0} → State M C L P
new_state = record {
  units = new_units;
  core = new_core;
  bag = no_control_messages;
  tunnels = [];
  radios = [];
  connected = [];
  plans = [];
  gone = [];
  books = [];
  started = false;
}

-- ---- what a unit is given

pub data Given (M L P : Type 0) : Type 0 where
  -- a control message, an item of a tunnel with the COUNT beside it, a PDU that a radio carried, or that was confirmed
  control_message_for : (from : NodeId) (message : M) → Given M L P
  item_for : (teid : ℕ) (item : Item L) → Given M L P
  carried_for : (item : Item P) → Given M L P
  confirmed_for : (item : Item P) → Given M L P
  offer_for : (ue : UeId) (bearer : BearerId) (packet : List ℕ) → Given M L P
  tick_for : Given M L P
  order_for : (order : Order) → Given M L P
  -- octets from outside
  octets_from : (from : NodeId) (octets : List ℕ) → Given M L P
  octets_on : (teid : ℕ) (octets : List ℕ) → Given M L P

-- what it puts out, and all units then; or the number of the counter that is spent
pub data Stepped (M C L P : Type 0) : Type 0 where
  stepped : (outputs : List (Put M L P)) (units : Units M C) → Stepped M C L P
  step_spent : (counter : ℕ) → Stepped M C L P

-- the core's own part of a run
pub data CoreStepped (M C L P : Type 0) : Type 0 where
  core_stepped : (outputs : List (Put M L P)) (core : CoreRecord M C) → CoreStepped M C L P

-- how long the numbers of each terminal are
abbrev pub Lengths : Type 0
Lengths = UeId → SnBits

-- What a run is told: how units answer; what the core puts on N3; which octets are those of a message or an item; and what is shown
-- of what stands on a link. An item is shown when it is put and when it is taken, so how it is shown is said by the item alone.
pub record World (M C L P : Type 0) : Type 0 where
  pub answer : Lengths → Units M C → NodeId → Given M L P → Stepped M C L P
  pub core_answer : Lengths → CoreRecord M C → Given M L P → CoreStepped M C L P
  pub lay_n3 : ℕ → List ℕ → L
  pub is_message : NodeId → NodeId → List ℕ → Bool
  pub is_item : Units M C → TunnelEnd → List ℕ → Bool
  pub show_item : L → List ℕ
  pub show_pdu : P → List ℕ

-- ---- how an event ends: the run goes on, or it stops

pub data Stop : Type 0 where
  -- the COUNTs of a bearer span more than half the space of its numbers
  outstanding : (key : EntityKey) (span window : ℕ) → Stop
  -- a counter would pass its last value
  spent_counter : (counter : ℕ) → Stop

-- the lines so far, or steps of them, and the state then; or why it stops
pub data Ending (X S : Type 0) : Type 0 where
  goes : (told : List X) (after : S) → Ending X S
  stops : (told : List X) (why : Stop) → Ending X S

abbrev pub told_before : {X S : Type 0} → List X → Ending X S → Ending X S
told_before told (goes more after) = goes (told ++ more) after
told_before told (stops more why) = stops (told ++ more) why

infixl 3 ◌next◌
abbrev pub ◌next◌ : {X S : Type 0} → Ending X S → (S → Ending X S) → Ending X S
(goes told after) next more = told_before told (more after)
(stops told why) next more = stops told why

abbrev pub goes_on : {X S : Type 0} → S → Ending X S
goes_on s = goes [] s

-- a step: what one unit does on one input, with its lines; some events have no acting unit
pub record RunStep (M : Type 0) : Type 0 where
  pub actor : Option NodeId
  pub lines : List (RunLine M)

-- what happens within a step, and what an event comes to
abbrev pub Within : Type 0 → Type 0 → Type 0 → Type 0 → Type 0
Within M C L P = Ending (RunLine M) (State M C L P)

abbrev pub Outcome : Type 0 → Type 0 → Type 0 → Type 0 → Type 0
Outcome M C L P = Ending (RunStep M) (State M C L P)

abbrev pub step_of : {M : Type 0} → Option NodeId → List (RunLine M) → RunStep M
step_of actor lines = record { actor = actor; lines = lines }

abbrev pub as_step : {M C L P : Type 0} → Option NodeId → Within M C L P → Outcome M C L P
as_step actor (goes lines after) = goes (step_of actor lines ∷ []) after
as_step actor (stops lines why) = stops (step_of actor lines ∷ []) why

-- lines of no unit's step
abbrev pub prints : {M C L P : Type 0} → List (RunLine M) → State M C L P → Outcome M C L P
prints lines s = goes (step_of None lines ∷ []) s

-- an event that can't apply changes nothing
abbrev pub refused : {M C L P : Type 0} → RefuseReason → State M C L P → Outcome M C L P
refused reason s = prints (was_refused reason ∷ []) s

-- ---- words on a state

abbrev pub entity : UeId → BearerId → Dir → EntityKey
entity ue bearer dir = record { ue = ue; bearer = bearer; dir = dir }

abbrev pub is_gone : {M C L P : Type 0} → State M C L P → UeId → Bool
is_gone s ue = list_any (λ u. u.0 == ue.0) s.gone

abbrev pub was_attached : {M C L P : Type 0} → State M C L P → UeId → Bool
was_attached s ue = is_some (find ue_cmp s.plans ue)

-- a terminal is attached that was attached and isn't gone
abbrev pub is_attached : {M C L P : Type 0} → State M C L P → UeId → Bool
is_attached s ue = was_attached s ue && not (is_gone s ue)

abbrev pub bearers_in : Option Plan → ℕ
bearers_in None = 0
bearers_in (Some plan) = plan.bearers

abbrev pub has_bearer : {M C L P : Type 0} → State M C L P → UeId → BearerId → Bool
has_bearer s ue bearer = is_attached s ue && nat_le bearer.0 (bearers_in (find ue_cmp s.plans ue))

abbrev pub sn_in : Option Plan → SnBits
sn_in None = Len12
sn_in (Some plan) = plan.sn

abbrev pub sn_of : {M C L P : Type 0} → State M C L P → UeId → SnBits
sn_of s ue = sn_in (find ue_cmp s.plans ue)

abbrev pub book_of : {M C L P : Type 0} → State M C L P → EntityKey → Book
book_of s key = at entity_cmp new_book s.books key

abbrev pub with_book : {M C L P : Type 0} → EntityKey → Book → State M C L P → State M C L P
with_book key book s = record s { books = put entity_cmp s.books key book }

abbrev pub radio_of : {M C L P : Type 0} → State M C L P → EntityKey → Radio P
radio_of s key = at entity_cmp (record { items = []; carried = 0 }) s.radios key

abbrev pub with_radio : {M C L P : Type 0} → EntityKey → Radio P → State M C L P → State M C L P
with_radio key radio s = record s { radios = put entity_cmp s.radios key radio }
