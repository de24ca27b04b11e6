-- The core's path is that of the model after the orders of a list of messages.
use Rattle.std.proofs.Common.{◌≡◌, List, [], ◌∷◌, ◌++◌, refl, sym, subst}
use Rattle.gnb_types.specs.declared.names.UeId.{UeId}
use Rattle.gnb_types.specs.declared.names.BearerId.{BearerId}
use Rattle.unit_defs.specs.Ways.{Way, Answer, gives, spent}
use Rattle.unit_defs.specs.Core.{CoreRecord, core_acts}
use Rattle.bearer_defs.specs.chain_defs.Models.{Model}
use Rattle.bearer_defs.specs.chain_defs.Orders.{ModelStep, after, run}
use Rattle.proof_node_orders.specs.core_rows.Shown.{Places, IsPath, goal_by, orders_to, Follows}
use Rattle.proof_node_orders.specs.core_rows.Lists.{CoreReceived, kept_of, orders_if, after_all, orders_over, AreOne}
use Rattle.proof_node_orders.proofs.core_rows.Rows.{control_message_follows}

run_more : (s : Model) (os more : List ModelStep) → run s (os ++ more) ≡ run (run s os) more
unfolding run
run_more s [] more = refl
run_more s (o ∷ os) more = run_more (after s o) os more

module _ {M C P : Type 0} (way : Way M C P) (places : Places) (ue : UeId) (bearer : BearerId) where
  pub path_over : (r : CoreRecord M C) (s : Model) (ms : List (CoreReceived C)) → IsPath places r ue bearer s → AreOne way ue bearer r ms
      → IsPath places (after_all way r ms) ue bearer (run s (orders_over way places ue bearer r ms))
  unfolding after_all orders_over AreOne run Follows
  path_over r s [] is one = is
  path_over r s (m ∷ ms) is one = by (core_acts way r m.from m.message) (control_message_follows way places ue bearer r s is m.from m.message one.0) one.1
      (λ v t h g. path_over v t ms h g)
    where
      orders : List ModelStep
      orders = orders_to places (goal_by ue bearer r m.from m.message)

      by : (a : Answer M P (CoreRecord M C)) → Follows places ue bearer s (run s orders) a → AreOne way ue bearer (kept_of r a) ms
          → ((v : CoreRecord M C) (t : Model) → IsPath places v ue bearer t → AreOne way ue bearer v ms
          → IsPath places (after_all way v ms) ue bearer (run t (orders_over way places ue bearer v ms)))
          → IsPath places (after_all way (kept_of r a) ms) ue bearer (run s (orders_if a orders ++ orders_over way places ue bearer (kept_of r a) ms))
      by (gives outputs v) goes one_each more =
          subst (λ t. IsPath places (after_all way v ms) ue bearer t) (sym (run_more s orders (orders_over way places ue bearer v ms)))
          (more v (run s orders) goes.path one_each)
      by (spent counter) goes one_each more = more r s is one_each
