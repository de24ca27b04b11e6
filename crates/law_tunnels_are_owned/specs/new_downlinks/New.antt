-- A downlink tunnel that a change begins, by its TEID.
use Rattle.std.specs.Prelude.{ℕ, ◌≤◌, Some}
use Rattle.proof_node_orders.specs.du_inputs.Changes.{Change, renews, sets_up}

-- where all below this were given, it is another one
abbrev pub IsNew : ℕ → Change → Type 0
IsNew low (renews epoch teid) = low ≤ teid
IsNew low (sets_up (Some part)) = low ≤ part.bearer.downlink
IsNew low change = Unit {0}
