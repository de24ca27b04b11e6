-- What happens to one bearer in a run, one thing after another: orders to its contexts at CU-UPs, and orders of the rest of the run
-- (the terminal, the core, the radio, the DU). Contexts are numbered, each once in a run.
use Rattle.std.specs.Prelude.{ℕ, Bool, List, [], ◌∷◌, Option}
use Rattle.gnb_types.specs.declared.names.UeId.{UeId}
use Rattle.gnb_types.specs.declared.names.BearerId.{BearerId}
use Rattle.unit_defs.specs.Ways.{Way, Answer, gives, spent}
use Rattle.bearer_defs.specs.chain_defs.Models as down_models
use Rattle.bearer_defs.specs.chain_defs.Models.{set}
use Rattle.bearer_defs.specs.chain_defs.Orders as down
use Rattle.bearer_defs.specs.uplink_defs.Models as up_models
use Rattle.bearer_defs.specs.uplink_defs.Orders as up
use Rattle.proof_cu_up_orders.specs.context_orders.Orders.{CuUpModel, ContextStep, carried_out}

-- what the run says beside an order: what is left on the tunnel that an item is taken from, the context that a hop leads to, the radio
-- that a switch is for, and whether a release is final
pub record Beside : Type 0 where
  pub left_down : List down_models.Item
  pub left_up : List up_models.Item
  pub to : ℕ
  pub epoch : ℕ
  pub final : Bool

pub data Happening (P : Type 0) : Type 0 where
  asks : (x : ℕ) (order : ContextStep P) (beside : Beside) → Happening P
  down_by : (order : down.ModelStep) → Happening P
  up_by : (order : up.ModelStep) → Happening P

-- what the CU-UPs have of the bearer, by context
abbrev pub Contexts : Type 0
Contexts = ℕ → Option CuUpModel

-- where a counter is spent the run stops, and nothing more is said
abbrev pub kept_of : {M P : Type 0} → Option CuUpModel → Answer M P (Option CuUpModel) → Option CuUpModel
kept_of p (gives outputs q) = q
kept_of p (spent counter) = p

module _ {M C P : Type 0} (way : Way M C P) (ue : UeId) (bearer : BearerId) where
  abbrev pub context_after : Contexts → Happening P → Contexts
  context_after cs (asks x order beside) = set cs x (kept_of (cs x) (carried_out way ue bearer order (cs x)))
  context_after cs (down_by order) = cs
  context_after cs (up_by order) = cs

  unfoldable pub contexts_after : Contexts → List (Happening P) → Contexts
  contexts_after cs [] = cs
  contexts_after cs (h ∷ hs) = contexts_after (context_after cs h) hs
