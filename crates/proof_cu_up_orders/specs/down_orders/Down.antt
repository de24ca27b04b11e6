-- An order to a bearer of a CU-UP, as a list of orders to the downlink of this bearer in the run.
use Rattle.std.specs.Prelude.{◌≡◌, ◌≢◌, ◌==◌, ℕ, Bool, true, false, not, ◌||◌, if◌then◌else◌, List, [], ◌∷◌, ◌++◌, map, Option, Some, None}
use Rattle.pdcp_defs.specs.Senders.{may_restore, confirmed_to, confirmed_by}
use Rattle.pdcp_defs.specs.Receivers.{new_receiver}
use Rattle.unit_defs.specs.Ways.{Pdu, packet_pdu, report_pdu, packet_content, report_content, Taken, fresh_item, numbered_item, uplink_item, status_item, end_item, Output, Way, Answer, gives, spent}
use Rattle.unit_defs.specs.CuUpRecords.{CuUpBearer, DownlinkTunnel, SourceHop, CuUpScope, TunnelKind, n3, f1u_uplink, forwarding_down, forwarding_up}
use Rattle.unit_defs.specs.CuUpBearers.{made, has_downlink, thawed}
use Rattle.bearer_defs.specs.chain_defs.Models.{Item, Member, Model}
use Rattle.bearer_defs.specs.chain_defs.Orders.{ModelStep, keeps_n3, keeps_fresh, passes_n3, passes_fresh, sends, passes_numbered, drops, ends_n3, ends_hop, confirms, reports, reports_loss, sends_again, switches, knows, resumes, releases, on_downlink, known, waits}
use Rattle.proof_cu_up_orders.specs.chain_rows.Shown.{plain, items_of, pdus_of, number_orders, numbered_packets}
use Rattle.proof_cu_up_orders.specs.context_orders.Orders.{CuUpModel, ContextStep, on_switch, on_status, on_resume}
use Rattle.proof_cu_up_orders.specs.context_orders.Orders as ups
use Rattle.gnb_types.specs.declared.names.NodeId.{NodeId}
use Rattle.gnb_types.specs.declared.plans.SnStatus.{SnStatus}
use Rattle.gnb_types.specs.declared.names.UeId.{UeId}
use Rattle.gnb_types.specs.declared.names.BearerId.{BearerId}
use Rattle.gnb_types.specs.declared.names.SnBits.{SnBits}
use Rattle.unit_defs.specs.CuUp.{new_flags_of}

-- ---- what the downlink says of a bearer: all but its uplink, the number of its next frame and its restart mark

abbrev pub without_end : Option SourceHop → Option SourceHop
without_end None = None
without_end (Some hop) = Some (record hop { up_ended = false })

abbrev pub down_only : CuUpBearer → CuUpBearer
down_only b = record b { uplinks = []; receiver = new_receiver 0; up_ended = false; hop = without_end b.hop }

abbrev pub down_of : CuUpBearer → CuUpBearer
down_of b = down_only (plain b)

-- the member of the run's model is this bearer
pub record IsDown (m : Member) (p : CuUpModel) : Type 0 where
  pub there : m.is_there ≡ true
  pub flags : m.flags ≡ p.at.flags
  pub bearer : down_of m.bearer ≡ down_of p.bearer

-- ---- items: what is left on the tunnel is named

-- what waits is numbered, where the context serves and has a downlink
abbrev pub serves_none : CuUpScope → CuUpBearer → Bool
serves_none at b = at.flags.frozen || at.flags.released || not (has_downlink b.downlink)

abbrev pub numbers_if : ℕ → CuUpScope → CuUpBearer → List ModelStep
numbers_if x at b = if serves_none at b then [] else number_orders at.sn at.quota x b.waiting b.sender

abbrev pub packets_if : CuUpScope → CuUpBearer → List (ℕ × List ℕ)
packets_if at b = if serves_none at b then [] else numbered_packets at.sn at.quota b.waiting b.sender

abbrev pub fresh_orders : ℕ → CuUpScope → CuUpBearer → List ℕ → (on keeps : ModelStep) → List ModelStep
fresh_orders x at b packet on keeps = if at.flags.frozen then on ∷ [] else keeps ∷ numbers_if x at (waits b packet)

-- a packet with its COUNT: a released context passes it on, a frozen one where it is no duplicate, and one that serves sends it
abbrev pub numbered_order : ℕ → CuUpScope → CuUpBearer → ℕ → List ℕ → List Item → ModelStep
numbered_order x at b count packet rest =
    if at.flags.released || may_restore at.sn at.quota b.sender count
    then (if at.flags.frozen then passes_numbered x count packet rest else sends x count packet rest)
    else drops x count packet rest

abbrev pub confirms_if : ℕ → Option ℕ → List ModelStep
confirms_if x None = []
confirms_if x (Some count) = confirms x count ∷ []

abbrev pub confirmed_if : Option ℕ → CuUpBearer → CuUpBearer
confirmed_if None b = b
confirmed_if (Some count) b = record b { sender = confirmed_to b.sender count }

abbrev pub losses : ℕ → Bool → List (ℕ × ℕ) → List ModelStep
losses x is_frozen [] = []
losses x is_frozen (range ∷ ranges) = reports_loss x ∷ (if is_frozen then [] else sends_again x ∷ [])

abbrev pub item_orders : {P : Type 0} → ℕ → CuUpModel → List Item → TunnelKind → Taken P → List ModelStep
item_orders x p rest n3 (fresh_item packet) = fresh_orders x p.at p.bearer packet (passes_n3 x packet rest) (keeps_n3 x packet rest)
item_orders x p rest n3 end_item = ends_n3 x rest ∷ []
item_orders x p rest forwarding_down (fresh_item packet) = fresh_orders x p.at p.bearer packet (passes_fresh x packet rest) (keeps_fresh x packet rest)
item_orders x p rest forwarding_down (numbered_item (Some count) packet) = numbered_order x p.at p.bearer count packet rest ∷ []
item_orders x p rest forwarding_down end_item = ends_hop x rest ∷ []
item_orders x p rest f1u_uplink (uplink_item (report_content fmc bits)) =
    reports x fmc bits ∷ numbers_if x p.at (record p.bearer { sender = confirmed_by p.bearer.sender fmc bits })
item_orders x p rest f1u_uplink (status_item lost delivered) =
    confirms_if x delivered ++ losses x p.at.flags.frozen lost ++ numbers_if x p.at (confirmed_if delivered p.bearer)
item_orders x p rest kind item = []

-- ---- control

abbrev pub switch_orders : ℕ → ℕ → NodeId → ℕ → CuUpModel → List ModelStep
switch_orders x epoch du teid p =
    let downlink : DownlinkTunnel = record { du = du; teid = teid; next = 0 } in
    switches x downlink epoch ∷ (if p.at.flags.may_serve then numbers_if x (on_switch p).at (on_downlink p.bearer downlink) else [])

abbrev pub status_orders : ℕ → SnStatus → CuUpModel → List ModelStep
status_orders x status p =
    knows x status ∷ (if p.at.flags.arrived then sends_again x ∷ numbers_if x (on_status p).at (known p.bearer status) else [])

-- the radio that a switch is for is named; what a bearer takes, and the freeze, have theirs elsewhere
abbrev pub control_orders : {P : Type 0} → ℕ → ℕ → CuUpModel → ContextStep P → List ModelStep
control_orders x epoch p (ups.switches du teid) = switch_orders x epoch du teid p
control_orders x epoch p (ups.knows status) = status_orders x status p
control_orders x epoch p ups.resumes = resumes x ∷ numbers_if x (on_resume p).at (thawed p.bearer)
control_orders x epoch p ups.releases = releases x ∷ []
control_orders x epoch p order = []

-- ---- what orders come to

-- the packets among PDUs
abbrev pub packet_of : Pdu → List (ℕ × List ℕ)
packet_of (packet_pdu count packet) = (count, packet) ∷ []
packet_of (report_pdu fmc bits) = []

unfoldable pub packets_of : List Pdu → List (ℕ × List ℕ)
packets_of [] = []
packets_of (pdu ∷ pdus) = packet_of pdu ++ packets_of pdus

-- This member of the model is this one then, but for what it may have put on its own forwarding tunnel; these items went to where its
-- hop leads, and these packets to its radio; and nothing else changed.
pub record Went (s t : Model) (x : ℕ) (m : Member) (items : List Item) (packets : List (ℕ × List ℕ)) : Type 0 where
  pub here : record (t.members x) { forwarded = m.forwarded } ≡ m
  pub others : (y : ℕ) → y ≢ x → record (t.members y) { forwarded = (s.members y).forwarded } ≡ s.members y
  pub forwarded : (y : ℕ) → y ≢ x
      → (t.members y).forwarded ≡ (if y == m.next_hop then (s.members y).forwarded ++ items else (s.members y).forwarded)
  pub air : t.air ≡ (if m.epoch == s.epoch then s.air ++ packets else s.air)
  pub rest : (t.epoch ≡ s.epoch) × (t.path ≡ s.path) × (t.station ≡ s.station) × (t.offered ≡ s.offered) × (t.terminal ≡ s.terminal)
      × (t.delivered ≡ s.delivered)

-- the row's outputs and its bearer are what the orders made of the model
pub record Shown {M C P : Type 0} (way : Way M C P) (s t : Model) (x : ℕ) (q : CuUpModel) (outputs : List (Output M P)) : Type 0 where
  pub member : Member
  pub is : IsDown member q
  pub pdus : List Pdu
  pub puts : pdus_of outputs ≡ map (λ pdu. way.write q.at.sn pdu) pdus
  pub went : Went s t x member (items_of outputs) (packets_of pdus)

-- the row's answer is so, or a counter is spent
abbrev pub Shows : {M C P : Type 0} → Way M C P → Model → Model → ℕ → Answer M P (Option CuUpModel) → Type 0
Shows way s t x (gives outputs None) = ⊥
Shows way s t x (gives outputs (Some q)) = Shown way s t x q outputs
Shows way s t x (spent counter) = Unit {0}

-- ---- what is so of a bearer that takes an item: a frozen one has its hop, a released one is frozen, and where it serves it has a
-- downlink once COUNTs come to it

pub record Stands (p : CuUpModel) : Type 0 where
  pub hop : p.at.flags.frozen ≡ true → (h : SourceHop) × (p.bearer.hop ≡ Some h)
  pub passes : p.at.flags.frozen ≡ false → p.at.flags.released ≡ false

-- the item is one that the run puts there: its COUNT is found, and a tunnel ends once
-- A switch and a resume are of a context that wasn't released; and where the terminal is at the one that gets its SN status, this
-- serves, and has its downlink.
abbrev pub IsAsked : {P : Type 0} → CuUpModel → ContextStep P → Type 0
IsAsked p (ups.adds teid) = Unit {0}
IsAsked p (ups.switches du teid) = p.at.flags.released ≡ false
IsAsked p (ups.knows status) = p.at.flags.arrived ≡ true
    → (p.at.flags.frozen ≡ false) × (p.at.flags.released ≡ false) × (has_downlink p.bearer.downlink ≡ true)
IsAsked p ups.resumes = (p.at.flags.released ≡ false) × (has_downlink p.bearer.downlink ≡ true)
IsAsked p ups.releases = Unit {0}
IsAsked p ups.polls = Unit {0}
IsAsked p order = ⊥

abbrev pub IsFit : {P : Type 0} → CuUpModel → TunnelKind → Taken P → Type 0
IsFit p n3 (fresh_item packet) = Unit {0}
IsFit p n3 end_item = (p.at.flags.frozen ≡ true) × ((teid : ℕ) × (p.bearer.n3 ≡ Some teid))
IsFit p forwarding_down (fresh_item packet) = Unit {0}
IsFit p forwarding_down (numbered_item (Some count) packet) = p.at.flags.frozen ≡ false → has_downlink p.bearer.downlink ≡ true
IsFit p forwarding_down end_item = p.bearer.down_ended ≡ false
IsFit p f1u_uplink (uplink_item (report_content fmc bits)) = Unit {0}
IsFit p f1u_uplink (status_item lost delivered) = p.at.flags.frozen ≡ false → has_downlink p.bearer.downlink ≡ true
IsFit p kind item = ⊥

-- an item that the uplink alone says something of
abbrev pub IsOfUplink : {P : Type 0} → TunnelKind → Taken P → Type 0
IsOfUplink f1u_uplink (uplink_item (packet_content count packet)) = Unit {0}
IsOfUplink f1u_uplink end_item = Unit {0}
IsOfUplink forwarding_up (numbered_item count packet) = Unit {0}
IsOfUplink forwarding_up end_item = Unit {0}
IsOfUplink kind item = ⊥

-- the bearer that a new context has
abbrev pub new_model : UeId → BearerId → ℕ → SnBits → ℕ → Bool → ℕ → CuUpModel
new_model ue bearer instance sn quota target teid = record {
  instance = instance;
  at = record { ue = ue; bearer = bearer; sn = sn; quota = quota; flags = new_flags_of target };
  bearer = made target teid;
}

-- ---- a freeze: to this other context go these items, and it is promised this COUNT

pub record Froze (s t : Model) (x to : ℕ) (m : Member) (items : List Item) (promised : ℕ) : Type 0 where
  pub here : t.members x ≡ m
  pub target : t.members to ≡ record (s.members to) { forwarded = (s.members to).forwarded ++ items; promised = promised }
  pub others : (y : ℕ) → y ≢ x → y ≢ to → t.members y ≡ s.members y
  pub rest : (t.air ≡ s.air) × (t.epoch ≡ s.epoch) × (t.path ≡ s.path) × (t.station ≡ s.station) × (t.offered ≡ s.offered)
      × (t.terminal ≡ s.terminal) × (t.delivered ≡ s.delivered)

pub record ShownFrozen {M P : Type 0} (s t : Model) (x to : ℕ) (promised : ℕ) (q : CuUpModel) (outputs : List (Output M P)) : Type 0 where
  pub member : Member
  pub is : IsDown member q
  pub puts : pdus_of outputs ≡ []
  pub froze : Froze s t x to member (items_of outputs) promised

abbrev pub ShowsFrozen : {M P : Type 0} → Model → Model → (x to promised : ℕ) → Answer M P (Option CuUpModel) → Type 0
ShowsFrozen s t x to promised (gives outputs None) = ⊥
ShowsFrozen s t x to promised (gives outputs (Some q)) = ShownFrozen s t x to promised q outputs
ShowsFrozen s t x to promised (spent counter) = Unit {0}
