-- What happens to a bearer, as orders of its uplink; and what they ask.
use Rattle.std.specs.Prelude.{◌≡◌, ◌⊎◌, ◌||◌, ◌&&◌, ℕ, Bool, true, false, if◌then◌else◌, List, [], ◌∷◌, ◌++◌, Option, Some, None, ⊤}
use Rattle.gnb_types.specs.declared.names.UeId.{UeId}
use Rattle.gnb_types.specs.declared.names.BearerId.{BearerId}
use Rattle.unit_defs.specs.CuUpRecords.{TunnelKind}
use Rattle.unit_defs.specs.CuUpBearers.{is_over}
use Rattle.unit_defs.specs.CuUpItems.{held_reason}
use Rattle.unit_defs.specs.Ways.{Taken, Way}
use Rattle.bearer_defs.specs.uplink_defs.Models.{Member, Model}
use Rattle.bearer_defs.specs.uplink_defs.Orders.{ModelStep, offers, numbers, connects, leaves, arrives, carries, acknowledges, reports, marks, makes, freezes, closes, discards, run}
use Rattle.bearer_defs.specs.uplink_defs.Assumptions.{IsReady, IsAssumed}
use Rattle.proof_cu_up_orders.specs.context_orders.Orders.{CuUpModel, ContextStep, carried_out}
use Rattle.proof_cu_up_orders.specs.context_orders.Orders as ups
use Rattle.proof_cu_up_orders.specs.context_tests.Tests.{IsTested}
use Rattle.proof_cu_up_orders.specs.orders.Up.{IsUp, item_orders, control_orders, Stands, IsFit, IsAsked, IsOfDownlink}
use Rattle.proof_cu_up_orders.specs.kept.Up.{StandsFirst, ControlAssumes}
use Rattle.proof_cu_up_orders.specs.bearer_orders.Happenings.{Beside, Happening, asks, down_by, up_by, Contexts, context_after}
use Rattle.proof_cu_up_orders.specs.bearer_orders.Down.{hop_to, IsFreezable, IsGiven}

-- ---- the orders of one context

abbrev pub is_done : CuUpModel → Bool
is_done p = p.at.flags.released && is_over p.at.flags p.bearer

-- a context that ends was released, and nothing comes any more; or it is discarded
abbrev pub end_of : ℕ → Bool → ModelStep
end_of x done = if done then closes x else discards x

abbrev pub orders_of : {P : Type 0} → ℕ → Beside → CuUpModel → ContextStep P → List ModelStep
orders_of x b p (ups.takes kind teid item) = item_orders x b.left_up kind teid item
orders_of x b p (ups.freezes peer down up) = freezes x b.to (hop_to peer down up) ∷ []
orders_of x b p ups.closes = end_of x (is_done p) ∷ []
orders_of x b p order = control_orders x p order

abbrev pub orders_anew : {P : Type 0} → ℕ → ContextStep P → List ModelStep
orders_anew x (ups.makes instance sn quota target teid) = makes x teid ∷ []
orders_anew x order = []

abbrev pub orders_in : {P : Type 0} → ℕ → Beside → Option CuUpModel → ContextStep P → List ModelStep
orders_in x b None order = orders_anew x order
orders_in x b (Some p) order = orders_of x b p order

abbrev pub orders_by : {P : Type 0} → Contexts → Happening P → List ModelStep
orders_by cs (asks x order b) = orders_in x b (cs x) order
orders_by cs (down_by order) = []
orders_by cs (up_by order) = order ∷ []

-- ---- the model has the contexts

abbrev pub IsIn : Member → Option CuUpModel → Type 0
IsIn m None = m.is_there ≡ false
IsIn m (Some p) = IsUp m p

abbrev pub Has : Model → Contexts → Type 0
Has s cs = (x : ℕ) → IsIn (s.members x) (cs x)

-- ---- what they ask

abbrev pub AsksItem : {P : Type 0} → Model → ℕ → Beside → CuUpModel → TunnelKind → ℕ → Taken P → Type 0
AsksItem s x b p kind teid item = IsOfDownlink kind item ⊎ (IsFit p kind item × StandsFirst (s.members x) b.left_up kind teid item)

abbrev pub Asks : {P : Type 0} → Model → ℕ → Beside → CuUpModel → ContextStep P → Type 0
Asks s x b p (ups.takes kind teid item) = Stands p × (held_reason p.at p.bearer kind item ≡ None) × AsksItem s x b p kind teid item
Asks s x b p (ups.freezes peer down up) = IsFreezable p × IsAssumed s (freezes x b.to (hop_to peer down up))
Asks s x b p ups.closes = is_done p ≡ false → IsAssumed s (discards x)
Asks s x b p (ups.makes instance sn quota target teid) = ⊤
Asks s x b p ups.polls = ⊤
Asks s x b p order = IsTested b.final p order × IsAsked p order × ControlAssumes s x p order

-- a context that is made is a target
abbrev pub AsksAnew : {P : Type 0} → Model → ℕ → ContextStep P → Type 0
AsksAnew s x (ups.makes instance sn quota target teid) = (target ≡ true) × IsAssumed s (makes x teid)
AsksAnew s x order = ⊤

abbrev pub AsksIn : {P : Type 0} → Model → ℕ → Beside → Option CuUpModel → ContextStep P → Type 0
AsksIn s x b None order = AsksAnew s x order
AsksIn s x b (Some p) order = Asks s x b p order

-- an order of the terminal, its radio or a DU
abbrev pub IsOthers : ModelStep → Type 0
IsOthers (offers packet) = ⊤
IsOthers (numbers packet rest) = ⊤
IsOthers connects = ⊤
IsOthers leaves = ⊤
IsOthers (arrives x) = ⊤
IsOthers (carries teid count packet rest) = ⊤
IsOthers (acknowledges count rest) = ⊤
IsOthers (reports fmc bits) = ⊤
IsOthers (marks x teid) = ⊤
IsOthers order = ⊥

-- ---- by which nothing is delivered: what is asked of a released context, and of one that is frozen or where the terminal never came

abbrev pub IsHushed : {P : Type 0} → CuUpModel → ContextStep P → Type 0
IsHushed p (ups.takes kind teid item) = (p.at.flags.frozen || p.at.flags.released) ≡ true
IsHushed p (ups.knows status) = p.at.flags.arrived ≡ false
IsHushed p (ups.switches du teid) = ⊥
IsHushed p ups.resumes = ⊥
IsHushed p order = ⊤

abbrev pub IsHushedIn : {P : Type 0} → Option CuUpModel → ContextStep P → Type 0
IsHushedIn None order = ⊤
IsHushedIn (Some p) order = IsHushed p order

abbrev pub IsHushedBy : {P : Type 0} → Contexts → Happening P → Type 0
IsHushedBy cs (asks x order b) = IsHushedIn (cs x) order
IsHushedBy cs h = ⊤

module _ {M C P : Type 0} (way : Way M C P) (ue : UeId) (bearer : BearerId) where
  abbrev pub AsksBy : Model → Contexts → Happening P → Type 0
  AsksBy s cs (asks x order b) = IsGiven (carried_out way ue bearer order (cs x)) × AsksIn s x b (cs x) order
  AsksBy s cs (down_by order) = ⊤
  AsksBy s cs (up_by order) = IsOthers order × IsReady s order × IsAssumed s order

  unfoldable pub AllAsk : Model → Contexts → List (Happening P) → Type 0
  AllAsk s cs [] = ⊤
  AllAsk s cs (h ∷ hs) = AsksBy s cs h × AllAsk (run s (orders_by cs h)) (context_after way ue bearer cs h) hs

  unfoldable pub all_orders : Contexts → List (Happening P) → List ModelStep
  all_orders cs [] = []
  all_orders cs (h ∷ hs) = orders_by cs h ++ all_orders (context_after way ue bearer cs h) hs

  unfoldable pub AllHushed : Contexts → List (Happening P) → Type 0
  AllHushed cs [] = ⊤
  AllHushed cs (h ∷ hs) = IsHushedBy cs h × AllHushed (context_after way ue bearer cs h) hs
