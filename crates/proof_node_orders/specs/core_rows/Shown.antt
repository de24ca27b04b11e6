-- What the core knows of the downlink of one bearer, and what a message does to it.
use Rattle.std.specs.Prelude.{◌≡◌, ◌==◌, ℕ, Bool, true, false, ◌&&◌, if◌then◌else◌, List, [], ◌∷◌, ◌++◌, Option, Some, None, ⊤}
use Rattle.std.specs.Ordering.{eq_by_cmp}
use Rattle.gnb_types.specs.declared.names.NodeId.{NodeId}
use Rattle.gnb_types.specs.declared.names.NodeId.TheVariants.{CuCp, CuUp}
use Rattle.gnb_types.specs.declared.names.UeId.{UeId}
use Rattle.gnb_types.specs.declared.names.BearerId.{BearerId}
use Rattle.gnb_types.specs.declared.plans.Tunnel.{Tunnel}
use Rattle.gnb_types.specs.Orders.{ue_cmp, bearer_cmp}
use Rattle.tables.specs.Tables.{find}
use Rattle.message_types.specs.declared.xn.CoreMessage.TheVariants as cores
use Rattle.transaction_defs.specs.Callees.{Verdict, new, again, stale, verdict}
use Rattle.unit_defs.specs.Ways.{Message, core, Load, fresh, end_marker, Output, packet, Answer, gives, spent}
use Rattle.unit_defs.specs.Transactions.{Kind, request, kind_of}
use Rattle.unit_defs.specs.Messages.{channel}
use Rattle.unit_defs.specs.Core.{CorePath, CoreRecord}
use Rattle.bearer_defs.specs.chain_defs.Models.{Item, fresh as fresh_item, end_marker as end_item, Model}
use Rattle.bearer_defs.specs.chain_defs.Orders.{ModelStep, switches_path}

-- the TEIDs of a bearer, in a list of tunnels
abbrev pub teids_of : BearerId → List Tunnel → List ℕ
teids_of bearer [] = []
teids_of bearer (t ∷ ts) = (if eq_by_cmp bearer_cmp bearer t.bearer then t.teid ∷ [] else []) ++ teids_of bearer ts

-- which context an N3 tunnel ends at
abbrev pub Places : Type 0
Places = NodeId → ℕ → ℕ

-- The path of the terminal has one tunnel of this bearer, and it ends at the context that the model sends to.
pub record IsPath {M C : Type 0} (places : Places) (r : CoreRecord M C) (ue : UeId) (bearer : BearerId) (s : Model) : Type 0 where
  pub path : CorePath
  pub teid : ℕ
  pub there : find ue_cmp r.paths ue ≡ Some path
  pub one : teids_of bearer path.n3 ≡ teid ∷ []
  pub place : s.path ≡ places path.up teid

-- ---- a path switch that is new, to a tunnel of this bearer

abbrev pub is_new : Verdict → Bool
is_new new = true
is_new again = false
is_new stale = false

-- the tunnels that a request names for this bearer
pub record Goal : Type 0 where
  pub up : NodeId
  pub teids : List ℕ

abbrev pub if_own : Bool → Goal → Option Goal
if_own is_own goal = if is_own then Some goal else None

abbrev pub goal_of : {C : Type 0} → UeId → BearerId → Message C → Option Goal
goal_of ue bearer (core (cores.PathSwitchRequest other instance peer n3)) =
    if_own (eq_by_cmp ue_cmp ue other) (record { up = CuUp peer.gnb peer.up; teids = teids_of bearer n3 })
goal_of ue bearer message = None

abbrev pub goal_if : Bool → Option Goal → Option Goal
goal_if is goal = if is then goal else None

abbrev pub goal_at : {M C : Type 0} → UeId → BearerId → CoreRecord M C → NodeId → Message C → Kind → Option Goal
goal_at ue bearer r from message (request other instance) =
    goal_if (is_new (verdict r.transactions.callee (channel other from) instance)) (goal_of ue bearer message)
goal_at ue bearer r from message kind = None

abbrev pub goal_by : {M C : Type 0} → UeId → BearerId → CoreRecord M C → NodeId → Message C → Option Goal
goal_by ue bearer r (CuCp gnb) message = goal_at ue bearer r (CuCp gnb) message (kind_of message)
goal_by ue bearer r from message = None

-- its orders
abbrev pub to_first : Places → NodeId → List ℕ → List ModelStep
to_first places up [] = []
to_first places up (teid ∷ teids) = switches_path (places up teid) ∷ []

abbrev pub orders_to : Places → Option Goal → List ModelStep
orders_to places None = []
orders_to places (Some goal) = to_first places goal.up goal.teids

-- what is named for the bearer is one tunnel
abbrev pub IsOne : Option Goal → Type 0
IsOne None = ⊤
IsOne (Some goal) = (teid : ℕ) × (goal.teids ≡ teid ∷ [])

-- ---- what is put for one bearer: on which tunnel, and what of it the model has

abbrev pub item_of : {P : Type 0} → Load P → List Item
item_of (fresh p) = fresh_item p ∷ []
item_of end_marker = end_item ∷ []
item_of load = []

-- what comes to a context, of the packets that are put for this bearer
unfoldable pub items_put : {M P : Type 0} → Places → UeId → BearerId → ℕ → List (Output M P) → List Item
items_put places ue bearer x [] = []
items_put places ue bearer x (packet to teid other q dir tag load ∷ outputs) =
    (if eq_by_cmp ue_cmp ue other && eq_by_cmp bearer_cmp bearer q && x == places to teid then item_of load else [])
    ++ items_put places ue bearer x outputs
items_put places ue bearer x (output ∷ outputs) = items_put places ue bearer x outputs

-- The core's path is that of the model after these orders, and what it put is what came to the contexts' N3 tunnels.
pub record IsAfter {M C P : Type 0} (places : Places) (ue : UeId) (bearer : BearerId) (s t : Model) (outputs : List (Output M P))
    (v : CoreRecord M C) : Type 0 where
  pub path : IsPath places v ue bearer t
  pub n3 : (x : ℕ) → (t.members x).n3 ≡ (s.members x).n3 ++ items_put places ue bearer x outputs

unfoldable pub Follows : {M C P : Type 0} → Places → UeId → BearerId → Model → Model → Answer M P (CoreRecord M C) → Type 0
Follows places ue bearer s t (gives outputs v) = IsAfter places ue bearer s t outputs v
Follows places ue bearer s t (spent counter) = ⊤
