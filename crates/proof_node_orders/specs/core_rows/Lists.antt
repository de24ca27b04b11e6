-- The core over a list of messages, and the orders of one bearer.
use Rattle.std.specs.Prelude.{List, [], ◌∷◌, ◌++◌, ⊤}
use Rattle.gnb_types.specs.declared.names.NodeId.{NodeId}
use Rattle.gnb_types.specs.declared.names.UeId.{UeId}
use Rattle.gnb_types.specs.declared.names.BearerId.{BearerId}
use Rattle.unit_defs.specs.Ways.{Message, Way, Answer, gives, spent}
use Rattle.unit_defs.specs.Core.{CoreRecord, core_acts}
use Rattle.bearer_defs.specs.chain_defs.Orders.{ModelStep}
use Rattle.proof_node_orders.specs.core_rows.Shown.{Places, goal_by, orders_to, IsOne}

pub record CoreReceived (C : Type 0) : Type 0 where
  pub from : NodeId
  pub message : Message C

-- where a counter is spent the run stops, and nothing more is said
abbrev pub kept_of : {M C P : Type 0} → CoreRecord M C → Answer M P (CoreRecord M C) → CoreRecord M C
kept_of r (gives outputs v) = v
kept_of r (spent counter) = r

abbrev pub orders_if : {M C P : Type 0} → Answer M P (CoreRecord M C) → List ModelStep → List ModelStep
orders_if (gives outputs v) orders = orders
orders_if (spent counter) orders = []

module _ {M C P : Type 0} (way : Way M C P) where
  unfoldable pub after_all : CoreRecord M C → List (CoreReceived C) → CoreRecord M C
  after_all r [] = r
  after_all r (m ∷ ms) = after_all (kept_of r (core_acts way r m.from m.message)) ms

  unfoldable pub orders_over : Places → UeId → BearerId → CoreRecord M C → List (CoreReceived C) → List ModelStep
  orders_over places ue bearer r [] = []
  orders_over places ue bearer r (m ∷ ms) =
      let a = core_acts way r m.from m.message in
      orders_if a (orders_to places (goal_by ue bearer r m.from m.message)) ++ orders_over places ue bearer (kept_of r a) ms

  unfoldable pub AreOne : UeId → BearerId → CoreRecord M C → List (CoreReceived C) → Type 0
  AreOne ue bearer r [] = ⊤
  AreOne ue bearer r (m ∷ ms) =
      IsOne (goal_by ue bearer r m.from m.message) × AreOne ue bearer (kept_of r (core_acts way r m.from m.message)) ms
