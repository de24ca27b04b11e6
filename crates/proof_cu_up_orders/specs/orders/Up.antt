-- An order to a bearer of a CU-UP, as a list of orders to the uplink of this bearer in the run.
use Rattle.std.specs.Prelude.{◌≡◌, ◌≢◌, ◌==◌, ℕ, Bool, true, false, if◌then◌else◌, List, [], ◌∷◌, ◌++◌, Option, Some, None}
use Rattle.gnb_types.specs.declared.plans.SnStatus.{SnStatus}
use Rattle.gnb_types.specs.declared.names.UeId.{UeId}
use Rattle.gnb_types.specs.declared.names.BearerId.{BearerId}
use Rattle.gnb_types.specs.declared.names.SnBits.{SnBits}
use Rattle.unit_defs.specs.CuUp.{new_flags_of}
use Rattle.pdcp_defs.specs.Senders.{new_sender}
use Rattle.unit_defs.specs.Ways.{packet_content, report_content, Taken, fresh_item, numbered_item, uplink_item, status_item, end_item, Output, Answer, gives, spent}
use Rattle.unit_defs.specs.CuUpRecords.{CuUpBearer, SourceHop, TunnelKind, n3, f1u_uplink, forwarding_down, forwarding_up}
use Rattle.unit_defs.specs.CuUpBearers.{made, has_downlink}
use Rattle.bearer_defs.specs.uplink_defs.Models.{Item, uplink_tunnel, forwarding, Member, Model}
use Rattle.bearer_defs.specs.uplink_defs.Orders.{ModelStep, adds, knows, switches, resumes, releases, takes, ends_uplink, ends_hop}
use Rattle.proof_cu_up_orders.specs.uplink_rows.Shown.{items_of, delivered_in}
use Rattle.proof_cu_up_orders.specs.context_orders.Orders.{CuUpModel, ContextStep}
use Rattle.proof_cu_up_orders.specs.context_orders.Orders as ups

-- what the uplink says of a bearer: all but its downlink
abbrev pub up_of : CuUpBearer → CuUpBearer
up_of b = record b {
  n3 = None;
  sender = new_sender 0;
  waiting = [];
  downlink = None;
  restart = false;
  dl_next = 0;
  down_ended = false;
  loss_while_frozen = false;
  taken_while_frozen = [];
}

-- the member of the run's model is this bearer
pub record IsUp (m : Member) (p : CuUpModel) : Type 0 where
  pub there : m.is_there ≡ true
  pub flags : m.flags ≡ p.at.flags
  pub bearer : up_of m.bearer ≡ up_of p.bearer

-- what is left on the tunnel is named
abbrev pub item_orders : {P : Type 0} → ℕ → List Item → TunnelKind → ℕ → Taken P → List ModelStep
item_orders x rest f1u_uplink teid (uplink_item (packet_content (Some count) packet)) = takes x (uplink_tunnel teid) count packet rest ∷ []
item_orders x rest f1u_uplink teid end_item = ends_uplink x teid rest ∷ []
item_orders x rest forwarding_up teid (numbered_item (Some count) packet) = takes x forwarding count packet rest ∷ []
item_orders x rest forwarding_up teid end_item = ends_hop x rest ∷ []
item_orders x rest kind teid item = []

-- ---- control: an SN status where the terminal is there hands up what the receiver has, as a resume does

abbrev pub status_orders : ℕ → SnStatus → CuUpModel → List ModelStep
status_orders x status p = knows x status ∷ (if p.at.flags.arrived then resumes x ∷ [] else [])

-- what a bearer takes, and the freeze, have theirs elsewhere
abbrev pub control_orders : {P : Type 0} → ℕ → CuUpModel → ContextStep P → List ModelStep
control_orders x p (ups.adds teid) = adds x teid ∷ []
control_orders x p (ups.switches du teid) = switches x ∷ []
control_orders x p (ups.knows status) = status_orders x status p
control_orders x p ups.resumes = resumes x ∷ []
control_orders x p ups.releases = releases x ∷ []
control_orders x p order = []

-- ---- what orders come to

-- This member of the model is this one then, but for what it may have put on its own forwarding tunnel; these items went to where its
-- hop leads, and these packets were delivered; and nothing else changed.
pub record Went (s t : Model) (x : ℕ) (m : Member) (items : List Item) (packets : List (ℕ × List ℕ)) : Type 0 where
  pub here : record (t.members x) { forwarded = m.forwarded } ≡ m
  pub others : (y : ℕ) → y ≢ x → record (t.members y) { forwarded = (s.members y).forwarded } ≡ s.members y
  pub forwarded : (y : ℕ) → y ≢ x
      → (t.members y).forwarded ≡ (if y == m.next_hop then (s.members y).forwarded ++ items else (s.members y).forwarded)
  pub delivered : t.delivered ≡ s.delivered ++ packets
  pub rest : (t.station ≡ s.station) × (t.terminal ≡ s.terminal) × (t.connected ≡ s.connected) × (t.air ≡ s.air)
      × (t.carried ≡ s.carried) × (t.reached ≡ s.reached) × (t.offered ≡ s.offered)

-- the row's outputs and its bearer are what the orders made of the model
pub record Shown {M P : Type 0} (s t : Model) (x : ℕ) (q : CuUpModel) (outputs : List (Output M P)) : Type 0 where
  pub member : Member
  pub is : IsUp member q
  pub went : Went s t x member (items_of outputs) (delivered_in outputs)

-- the row's answer is so, or a counter is spent
abbrev pub Shows : {M P : Type 0} → Model → Model → ℕ → Answer M P (Option CuUpModel) → Type 0
Shows s t x (gives outputs None) = ⊥
Shows s t x (gives outputs (Some q)) = Shown s t x q outputs
Shows s t x (spent counter) = Unit {0}

-- what is so of a bearer that takes an item: a frozen one has its hop, and a released one is frozen
pub record Stands (p : CuUpModel) : Type 0 where
  pub hop : p.at.flags.frozen ≡ true → (h : SourceHop) × (p.bearer.hop ≡ Some h)
  pub passes : p.at.flags.frozen ≡ false → p.at.flags.released ≡ false

-- A switch and a resume are of a context that wasn't released; and where the terminal is at the one that gets its SN status, this
-- serves, and has its downlink.
abbrev pub IsAsked : {P : Type 0} → CuUpModel → ContextStep P → Type 0
IsAsked p (ups.adds teid) = Unit {0}
IsAsked p (ups.switches du teid) = p.at.flags.released ≡ false
IsAsked p (ups.knows status) = p.at.flags.arrived ≡ true
    → (p.at.flags.frozen ≡ false) × (p.at.flags.released ≡ false) × (has_downlink p.bearer.downlink ≡ true) × (p.bearer.hop ≡ None)
IsAsked p ups.resumes = (p.at.flags.released ≡ false) × (has_downlink p.bearer.downlink ≡ true)
IsAsked p ups.releases = Unit {0}
IsAsked p order = ⊥

-- the item is one that the run puts there: its COUNT is found, and the hop ends once
abbrev pub IsFit : {P : Type 0} → CuUpModel → TunnelKind → Taken P → Type 0
IsFit p f1u_uplink (uplink_item (packet_content (Some count) packet)) = Unit {0}
IsFit p f1u_uplink end_item = Unit {0}
IsFit p forwarding_up (numbered_item (Some count) packet) = Unit {0}
IsFit p forwarding_up end_item = p.bearer.up_ended ≡ false
IsFit p kind item = ⊥

-- an item that the downlink alone says something of
abbrev pub IsOfDownlink : {P : Type 0} → TunnelKind → Taken P → Type 0
IsOfDownlink n3 (fresh_item packet) = Unit {0}
IsOfDownlink n3 end_item = Unit {0}
IsOfDownlink forwarding_down (fresh_item packet) = Unit {0}
IsOfDownlink forwarding_down (numbered_item count packet) = Unit {0}
IsOfDownlink forwarding_down end_item = Unit {0}
IsOfDownlink f1u_uplink (uplink_item (report_content fmc bits)) = Unit {0}
IsOfDownlink f1u_uplink (status_item lost delivered) = Unit {0}
IsOfDownlink kind item = ⊥

-- the bearer that a new context has
abbrev pub new_model : UeId → BearerId → ℕ → SnBits → ℕ → Bool → ℕ → CuUpModel
new_model ue bearer instance sn quota target teid = record {
  instance = instance;
  at = record { ue = ue; bearer = bearer; sn = sn; quota = quota; flags = new_flags_of target };
  bearer = made target teid;
}

-- ---- a freeze: to this other context go these items, and it is promised what this one delivered

pub record Froze (s t : Model) (x to : ℕ) (m : Member) (items : List Item) (promised : ℕ) : Type 0 where
  pub here : t.members x ≡ m
  pub target : t.members to ≡ record (s.members to) { forwarded = (s.members to).forwarded ++ items; promised = promised }
  pub others : (y : ℕ) → y ≢ x → y ≢ to → t.members y ≡ s.members y
  pub rest : (t.delivered ≡ s.delivered) × (t.station ≡ s.station) × (t.terminal ≡ s.terminal) × (t.connected ≡ s.connected)
      × (t.air ≡ s.air) × (t.carried ≡ s.carried) × (t.reached ≡ s.reached) × (t.offered ≡ s.offered)

pub record ShownFrozen {M P : Type 0} (s t : Model) (x to : ℕ) (promised : ℕ) (q : CuUpModel) (outputs : List (Output M P)) : Type 0 where
  pub member : Member
  pub is : IsUp member q
  pub hands : delivered_in outputs ≡ []
  pub froze : Froze s t x to member (items_of outputs) promised

abbrev pub ShowsFrozen : {M P : Type 0} → Model → Model → (x to promised : ℕ) → Answer M P (Option CuUpModel) → Type 0
ShowsFrozen s t x to promised (gives outputs None) = ⊥
ShowsFrozen s t x to promised (gives outputs (Some q)) = ShownFrozen s t x to promised q outputs
ShowsFrozen s t x to promised (spent counter) = Unit {0}
