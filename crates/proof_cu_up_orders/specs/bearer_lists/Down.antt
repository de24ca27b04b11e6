-- What an order to a bearer of a CU-UP does to the lists of its downlink's model: what is left on the tunnels that end at its context, and
-- what comes to where its hop leads.
use Rattle.std.specs.Prelude.{◌≡◌, ◌≢◌, ◌⊎◌, ◌==◌, ℕ, if◌then◌else◌, List, ◌++◌, Some}
use Rattle.unit_defs.specs.CuUpRecords.{n3 as n3_kind, forwarding_down}
use Rattle.unit_defs.specs.Ways.{Output, Way, gives}
use Rattle.bearer_defs.specs.chain_defs.Models.{Item, Member, Model}
use Rattle.bearer_defs.specs.chain_defs.Orders.{run}
use Rattle.proof_cu_up_orders.specs.chain_rows.Shown.{items_of}
use Rattle.proof_cu_up_orders.specs.context_orders.Orders.{CuUpModel, ContextStep, makes, freezes, closes, takes, done}
use Rattle.proof_cu_up_orders.specs.down_orders.Down.{IsDown, Stands, IsFit, IsAsked, IsOfUplink}
use Rattle.proof_cu_up_orders.specs.bearer_orders.Happenings.{Beside}
use Rattle.proof_cu_up_orders.specs.bearer_orders.Down.{orders_of}

abbrev pub n3_left : {P : Type 0} → List Item → Member → ContextStep P → List Item
n3_left rest m (takes n3_kind teid item) = rest
n3_left rest m order = m.n3

abbrev pub forwarded_left : {P : Type 0} → List Item → Member → ContextStep P → List Item
forwarded_left rest m (takes forwarding_down teid item) = rest
forwarded_left rest m order = m.forwarded

abbrev pub next_after : {P : Type 0} → ℕ → Member → ContextStep P → ℕ
next_after to m (freezes peer down up) = to
next_after to m order = m.next_hop

-- at this context these lists are left, and its hop leads there; and these items came to that context
pub record Moved (s t : Model) (x : ℕ) (n3 forwarded : List Item) (next : ℕ) (items : List Item) : Type 0 where
  pub n3_here : (t.members x).n3 ≡ n3
  pub forwarded_here : (t.members x).forwarded ≡ forwarded
  pub hop_here : (t.members x).next_hop ≡ next
  pub n3_others : (y : ℕ) → y ≢ x → (t.members y).n3 ≡ (s.members y).n3
  pub forwarded_others : (y : ℕ) → y ≢ x
      → (t.members y).forwarded ≡ (if y == next then (s.members y).forwarded ++ items else (s.members y).forwarded)
  pub hops_others : (y : ℕ) → y ≢ x → (t.members y).next_hop ≡ (s.members y).next_hop

-- what is asked of a bearer that is there, but for where an item stands and for what is assumed of control
abbrev pub IsFor : {P : Type 0} → CuUpModel → ContextStep P → Type 0
IsFor p (takes kind teid item) = Stands p × (IsOfUplink kind item ⊎ IsFit p kind item)
IsFor p (freezes peer down up) = Unit {0}
IsFor p (makes instance sn quota target teid) = ⊥
IsFor p closes = ⊥
IsFor p order = IsAsked p order

abbrev pub MovesDown : {M C P : Type 0} → Way M C P → Type 0
MovesDown {M = M} {P = P} way =
    (s : Model) (x : ℕ) (p q : CuUpModel) → IsDown (s.members x) p → (b : Beside) (order : ContextStep P) → IsFor p order
    → next_after b.to (s.members x) order ≢ x → (outputs : List (Output M P)) → done way order p ≡ gives outputs (Some q)
    → Moved s (run s (orders_of x b p order)) x (n3_left b.left_down (s.members x) order) (forwarded_left b.left_down (s.members x) order)
    (next_after b.to (s.members x) order) (items_of outputs)
