-- A terminal that is set up without messages shows the initial models of each of its bearers.
use Rattle.std.proofs.Common.{◌≡◌, ◌<◌, ℕ, ◌+◌, zero, suc, Bool, true, false, cond, Some, refl, sym, ap, ◌∙◌, arith}
use Rattle.std.specs.declared.cmp.Ordering.TheVariants.{Less}
use Rattle.std.specs.Cmp.{nat_cmp_is}
use Rattle.std.specs.List.{AllByRecursion}
use Rattle.std.specs.List.Sorted.{IsStrictlySortedBy}
use Rattle.std.specs.Map.{lookup, keys_of}
use Rattle.std.specs.BTreeMap.{is_at}
use Rattle.gnb_types.specs.declared.names.BearerId.{BearerId}
use Rattle.gnb_types.specs.declared.plans.Plan.{Plan}
use Rattle.gnb_types.specs.Orders.{bearer_cmp}
use Rattle.tables.specs.Tables.{find}
use Rattle.unit_defs.specs.Ue.{UeBearer, new_bearer, new_bearers, new_ue, placed}
use Rattle.bearer_defs.specs.chain_defs.Models.{initial as down_start}
use Rattle.bearer_defs.specs.uplink_defs.Models.{initial}
use Rattle.proof_node_orders.specs.terminal_inputs.Inputs.{IsShown}

above : (i j count : ℕ) → i < j → AllByRecursion (λ (y : BearerId). bearer_cmp (record { 0 = i }) y ≡ Less) (keys_of (new_bearers j count))
above i j zero below = tt
above i j (suc count) below = (sym (nat_cmp_is i j Less below), above i (j + 1) count (omega arith))

in_order : (i count : ℕ) → IsStrictlySortedBy bearer_cmp (keys_of (new_bearers i count))
unfolding IsStrictlySortedBy
in_order i zero = tt
in_order i (suc count) = (above i (i + 1) count (omega arith), in_order (i + 1) count)

is_new : (bearer : BearerId) (b : UeBearer) (i count : ℕ) → find bearer_cmp (new_bearers i count) bearer ≡ Some b → b ≡ new_bearer
unfolding find
is_new bearer b i zero there = absurd cc
is_new bearer b i (suc count) there = by (is_at (bearer_cmp bearer) (record { 0 = i })) (is_new bearer b (i + 1) count) there
  where
    by : (t : Bool) → (lookup (is_at (bearer_cmp bearer)) (new_bearers (i + 1) count) ≡ Some b → b ≡ new_bearer)
        → cond t (Some new_bearer) (lookup (is_at (bearer_cmp bearer)) (new_bearers (i + 1) count)) ≡ Some b → b ≡ new_bearer
    by true rest is = cc
    by false rest is = rest is

pub first_shown : (plan : Plan) (bearer : BearerId) (b : UeBearer) (first teid : ℕ) → find bearer_cmp (placed (new_ue plan)).bearers bearer ≡ Some b
    → IsShown (placed (new_ue plan)) bearer (record { up = initial first teid; down = down_start first teid })
unfolding new_ue placed initial down_start
first_shown plan bearer b first teid there = record {
  seen = record { there = there ∙ ap (λ x. Some x) (is_new bearer b 1 plan.bearers there); connected = refl; epoch = refl };
  sorted = in_order 1 plan.bearers;
}
