-- What stands on one tunnel of a run, and what a step does to it: its oldest item is taken, its node opens and closes it, and items are
-- put at its end.
use Rattle.std.specs.Prelude.{◌≡◌, ℕ, Bool, false, if◌then◌else◌, List, [], ◌∷◌, ◌++◌, Option, Some, None, unwrap_or}
use Rattle.std.specs.Ordering.{eq_by_cmp}
use Rattle.gnb_types.specs.declared.names.NodeId.{NodeId}
use Rattle.gnb_types.specs.declared.keys.TunnelEnd.{TunnelEnd}
use Rattle.gnb_types.specs.Orders.{tunnel_cmp}
use Rattle.tables.specs.Tables.{find}
use Rattle.unit_defs.specs.Ways.{Put, packet, opened, closed}
use Rattle.transport_defs.specs.declared.Item.{Item}
use Rattle.run_defs.specs.States.{State, entity}
use Rattle.run_defs.specs.Steps.{count_beside}
use Rattle.proof_run_steps.specs.steps.Causes.{Cause, by_item}

-- none where the tunnel isn't open
abbrev pub standing : {M C L P : Type 0} → State M C L P → TunnelEnd → Option (List (Item L))
standing s end = find tunnel_cmp s.tunnels end

abbrev pub is_end : TunnelEnd → NodeId → ℕ → Bool
is_end end node teid = eq_by_cmp tunnel_cmp end (record { node = node; teid = teid })

abbrev pub with_item : {L : Type 0} → Item L → Option (List (Item L)) → Option (List (Item L))
with_item item None = None
with_item item (Some items) = Some (items ++ item ∷ [])

-- ---- what a node puts out, one after another, beside this COUNT of the item that it took

abbrev pub after_put : {M L P : Type 0} → TunnelEnd → NodeId → Option ℕ → Put M L P → Option (List (Item L)) → Option (List (Item L))
after_put end node taken (packet to teid ue bearer dir tag load) there =
    if is_end end to teid
    then with_item (record { key = entity ue bearer dir; count = count_beside tag taken; content = load }) there else there
after_put end node taken (opened teid) there = if is_end end node teid then Some (unwrap_or there []) else there
after_put end node taken (closed teid) there = if is_end end node teid then None else there
after_put end node taken output there = there

abbrev pub after_puts : {M L P : Type 0} → TunnelEnd → NodeId → Option ℕ → List (Put M L P) → Option (List (Item L)) → Option (List (Item L))
after_puts end node taken [] there = there
after_puts end node taken (output ∷ outputs) there = after_puts end node taken outputs (after_put end node taken output there)

-- ---- what the step takes

abbrev pub after_taking : {M L P : Type 0} → TunnelEnd → Cause M L P → Option (List (Item L)) → Option (List (Item L))
after_taking end (by_item from item rest) there = if eq_by_cmp tunnel_cmp end from then Some rest else there
after_taking end cause there = there

-- ---- what is put on the tunnel

abbrev pub put_by : {M L P : Type 0} → TunnelEnd → Option ℕ → Put M L P → List (Item L)
put_by end taken (packet to teid ue bearer dir tag load) =
    if is_end end to teid then record { key = entity ue bearer dir; count = count_beside tag taken; content = load } ∷ [] else []
put_by end taken output = []

abbrev pub put_on : {M L P : Type 0} → TunnelEnd → Option ℕ → List (Put M L P) → List (Item L)
put_on end taken [] = []
put_on end taken (output ∷ outputs) = put_by end taken output ++ put_on end taken outputs

-- an output that neither opens nor closes it
abbrev pub Leaves : {M L P : Type 0} → TunnelEnd → NodeId → Put M L P → Type 0
Leaves end node (opened teid) = is_end end node teid ≡ false
Leaves end node (closed teid) = is_end end node teid ≡ false
Leaves end node output = Unit {0}
