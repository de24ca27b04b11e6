-- What happens to a bearer, as orders of its downlink; and what they ask.
use Rattle.std.specs.Prelude.{◌≡◌, ◌⊎◌, ℕ, true, false, List, [], ◌∷◌, ◌++◌, Option, Some, None, ⊤}
use Rattle.gnb_types.specs.declared.names.SnBits.{SnBits}
use Rattle.gnb_types.specs.declared.names.NodeId.{NodeId}
use Rattle.gnb_types.specs.declared.names.UeId.{UeId}
use Rattle.gnb_types.specs.declared.names.BearerId.{BearerId}
use Rattle.unit_defs.specs.CuUpRecords.{SourceHop, TunnelKind}
use Rattle.unit_defs.specs.CuUpItems.{held_reason}
use Rattle.unit_defs.specs.Ways.{Taken, Way, Answer, gives, spent}
use Rattle.bearer_defs.specs.chain_defs.Models.{Member, Model}
use Rattle.bearer_defs.specs.chain_defs.Orders.{ModelStep, offers, switches_path, makes, freezes, closes, arrives, fails, carries, run}
use Rattle.bearer_defs.specs.chain_defs.Assumptions.{IsReady, IsAssumed}
use Rattle.proof_cu_up_orders.specs.context_orders.Orders.{CuUpModel, ContextStep, carried_out}
use Rattle.proof_cu_up_orders.specs.context_orders.Orders as ups
use Rattle.proof_cu_up_orders.specs.context_tests.Tests.{IsTested}
use Rattle.proof_cu_up_orders.specs.down_orders.Down.{IsDown, item_orders, control_orders, Stands, IsFit, IsAsked, IsOfUplink}
use Rattle.proof_cu_up_orders.specs.kept.Down.{StandsFirst, ItemAssumes, ControlAssumes}
use Rattle.proof_cu_up_orders.specs.bearer_orders.Happenings.{Beside, Happening, asks, down_by, up_by, Contexts, context_after}

abbrev pub hop_to : NodeId → ℕ → ℕ → SourceHop
hop_to peer down up = record { peer = peer; down = down; up = up; up_ended = false }

-- ---- the orders of one context

abbrev pub orders_of : {P : Type 0} → ℕ → Beside → CuUpModel → ContextStep P → List ModelStep
orders_of x b p (ups.takes kind teid item) = item_orders x p b.left_down kind item
orders_of x b p (ups.freezes peer down up) = freezes x b.to (hop_to peer down up) ∷ []
orders_of x b p ups.closes = closes x ∷ []
orders_of x b p order = control_orders x b.epoch p order

-- where there is none, one may be made
abbrev pub orders_anew : {P : Type 0} → ℕ → ContextStep P → List ModelStep
orders_anew x (ups.makes instance sn quota target teid) = makes x target teid ∷ []
orders_anew x order = []

abbrev pub orders_in : {P : Type 0} → ℕ → Beside → Option CuUpModel → ContextStep P → List ModelStep
orders_in x b None order = orders_anew x order
orders_in x b (Some p) order = orders_of x b p order

abbrev pub orders_by : {P : Type 0} → Contexts → Happening P → List ModelStep
orders_by cs (asks x order b) = orders_in x b (cs x) order
orders_by cs (down_by order) = order ∷ []
orders_by cs (up_by order) = []

-- ---- the model has the contexts

abbrev pub IsIn : SnBits → ℕ → Member → Option CuUpModel → Type 0
IsIn sn quota m None = m.is_there ≡ false
IsIn sn quota m (Some p) = IsDown m p × (p.at.sn ≡ sn) × (p.at.quota ≡ quota)

abbrev pub Has : SnBits → ℕ → Model → Contexts → Type 0
Has sn quota s cs = (x : ℕ) → IsIn sn quota (s.members x) (cs x)

-- ---- what they ask: what the run says of items, what the unit tests, and what is assumed of control

-- an item of the downlink stands first, and what it confirms was received; of one of the uplink nothing is asked
abbrev pub AsksItem : {P : Type 0} → Model → ℕ → Beside → CuUpModel → TunnelKind → Taken P → Type 0
AsksItem s x b p kind item = IsOfUplink kind item ⊎ (IsFit p kind item × StandsFirst (s.members x) b.left_down kind item × ItemAssumes s x kind item)

-- as a CU-UP tests before a freeze
abbrev pub IsFreezable : CuUpModel → Type 0
IsFreezable p = (p.at.flags.frozen ≡ false) × (p.at.flags.released ≡ false) × (p.at.flags.arrived ≡ true) × (p.at.flags.may_serve ≡ true)

abbrev pub Asks : {P : Type 0} → Model → ℕ → Beside → CuUpModel → ContextStep P → Type 0
Asks s x b p (ups.takes kind teid item) = Stands p × (held_reason p.at p.bearer kind item ≡ None) × AsksItem s x b p kind item
Asks s x b p (ups.freezes peer down up) = IsFreezable p × IsAssumed s (freezes x b.to (hop_to peer down up))
Asks s x b p ups.closes = IsAssumed s (closes x)
Asks s x b p (ups.makes instance sn quota target teid) = ⊤
Asks s x b p order =
    (p.at.flags.frozen ≡ true → p.at.flags.may_serve ≡ true) × IsTested b.final p order × IsAsked p order × ControlAssumes s x b.epoch order

abbrev pub AsksAnew : {P : Type 0} → SnBits → ℕ → Model → ℕ → ContextStep P → Type 0
AsksAnew sn quota s x (ups.makes instance its_sn its_quota target teid) = (its_sn ≡ sn) × (its_quota ≡ quota) × IsAssumed s (makes x target teid)
AsksAnew sn quota s x order = ⊤

abbrev pub AsksIn : {P : Type 0} → SnBits → ℕ → Model → ℕ → Beside → Option CuUpModel → ContextStep P → Type 0
AsksIn sn quota s x b None order = AsksAnew sn quota s x order
AsksIn sn quota s x b (Some p) order = Asks s x b p order

-- an order of the core, the terminal or the radio
abbrev pub IsOthers : ModelStep → Type 0
IsOthers (offers packet) = ⊤
IsOthers (switches_path to) = ⊤
IsOthers (arrives x) = ⊤
IsOthers fails = ⊤
IsOthers (carries count packet rest) = ⊤
IsOthers order = ⊥

-- no counter is spent
abbrev pub IsGiven : {M P R : Type 0} → Answer M P R → Type 0
IsGiven (gives outputs after) = ⊤
IsGiven (spent counter) = ⊥

module _ {M C P : Type 0} (way : Way M C P) (ue : UeId) (bearer : BearerId) (sn : SnBits) (quota : ℕ) where
  abbrev pub AsksBy : Model → Contexts → Happening P → Type 0
  AsksBy s cs (asks x order b) = IsGiven (carried_out way ue bearer order (cs x)) × AsksIn sn quota s x b (cs x) order
  AsksBy s cs (down_by order) = IsOthers order × IsReady sn quota s order × IsAssumed s order
  AsksBy s cs (up_by order) = ⊤

  unfoldable pub AllAsk : Model → Contexts → List (Happening P) → Type 0
  AllAsk s cs [] = ⊤
  AllAsk s cs (h ∷ hs) = AsksBy s cs h × AllAsk (run s (orders_by cs h)) (context_after way ue bearer cs h) hs

  unfoldable pub all_orders : Contexts → List (Happening P) → List ModelStep
  all_orders cs [] = []
  all_orders cs (h ∷ hs) = orders_by cs h ++ all_orders (context_after way ue bearer cs h) hs
