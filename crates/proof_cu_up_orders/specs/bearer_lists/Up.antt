-- What an order to a bearer of a CU-UP does to the lists of its uplink's model.
use Rattle.std.specs.Prelude.{◌≡◌, ◌≢◌, ◌⊎◌, ◌==◌, ℕ, Bool, true, false, if◌then◌else◌, List, ◌++◌, Some}
use Rattle.unit_defs.specs.CuUpRecords.{f1u_uplink, forwarding_up}
use Rattle.unit_defs.specs.Ways.{packet_content, Taken, uplink_item, end_item, Output, Way, gives}
use Rattle.bearer_defs.specs.chain_defs.Models.{set}
use Rattle.bearer_defs.specs.uplink_defs.Models.{Item, Member, Model}
use Rattle.bearer_defs.specs.uplink_defs.Orders.{run}
use Rattle.proof_cu_up_orders.specs.uplink_rows.Shown.{items_of}
use Rattle.proof_cu_up_orders.specs.context_orders.Orders.{CuUpModel, ContextStep, makes, freezes, closes, takes, polls, done}
use Rattle.proof_cu_up_orders.specs.orders.Up.{IsUp, Stands, IsFit, IsAsked, IsOfDownlink}
use Rattle.proof_cu_up_orders.specs.bearer_orders.Happenings.{Beside}
use Rattle.proof_cu_up_orders.specs.bearer_orders.Up.{orders_of}

-- a packet up, or an End Marker; reports and delivery statuses stand beside them on the same tunnels
abbrev pub is_up_item : {P : Type 0} → Taken P → Bool
is_up_item (uplink_item (packet_content count packet)) = true
is_up_item end_item = true
is_up_item item = false

abbrev pub uplink_left : {P : Type 0} → List Item → Member → ContextStep P → ℕ → List Item
uplink_left rest m (takes f1u_uplink teid item) = if is_up_item item then set m.uplink teid rest else m.uplink
uplink_left rest m order = m.uplink

abbrev pub forwarded_left : {P : Type 0} → List Item → Member → ContextStep P → List Item
forwarded_left rest m (takes forwarding_up teid item) = rest
forwarded_left rest m order = m.forwarded

abbrev pub next_after : {P : Type 0} → ℕ → Member → ContextStep P → ℕ
next_after to m (freezes peer down up) = to
next_after to m order = m.next_hop

-- at this context these lists are left, and its hop leads there; and these items came to that context
pub record Moved (s t : Model) (x : ℕ) (uplink : ℕ → List Item) (forwarded : List Item) (next : ℕ) (items : List Item) : Type 0 where
  pub uplink_here : (t.members x).uplink ≡ uplink
  pub forwarded_here : (t.members x).forwarded ≡ forwarded
  pub hop_here : (t.members x).next_hop ≡ next
  pub uplink_others : (y : ℕ) → y ≢ x → (t.members y).uplink ≡ (s.members y).uplink
  pub forwarded_others : (y : ℕ) → y ≢ x
      → (t.members y).forwarded ≡ (if y == next then (s.members y).forwarded ++ items else (s.members y).forwarded)
  pub hops_others : (y : ℕ) → y ≢ x → (t.members y).next_hop ≡ (s.members y).next_hop

-- what is asked of a bearer that is there, but for where an item stands and for what is assumed of control
abbrev pub IsFor : {P : Type 0} → CuUpModel → ContextStep P → Type 0
IsFor p (takes kind teid item) = Stands p × (IsOfDownlink kind item ⊎ IsFit p kind item)
IsFor p (freezes peer down up) = Unit {0}
IsFor p (makes instance sn quota target teid) = ⊥
IsFor p closes = ⊥
IsFor p polls = Unit {0}
IsFor p order = IsAsked p order

abbrev pub MovesUp : {M C P : Type 0} → Way M C P → Type 0
MovesUp {M = M} {P = P} way =
    (s : Model) (x : ℕ) (p q : CuUpModel) → IsUp (s.members x) p → (b : Beside) (order : ContextStep P) → IsFor p order
    → next_after b.to (s.members x) order ≢ x → (outputs : List (Output M P)) → done way order p ≡ gives outputs (Some q)
    → Moved s (run s (orders_of x b p order)) x (uplink_left b.left_up (s.members x) order) (forwarded_left b.left_up (s.members x) order)
    (next_after b.to (s.members x) order) (items_of outputs)
