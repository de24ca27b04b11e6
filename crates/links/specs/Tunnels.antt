-- The open tunnels (TS 29.281), with what stands on each, the oldest first, and what their calls give. A tunnel is named by its end.
use Rattle.std.specs.Prelude.{ℕ, Bool, true, false, if◌then◌else◌, List, [], ◌∷◌, ◌++◌, Option, Some, None, is_some}
use Rattle.gnb_types.specs.declared.names.NodeId.{NodeId}
use Rattle.gnb_types.specs.declared.names.UeId.{UeId}
use Rattle.gnb_types.specs.declared.names.BearerId.{BearerId}
use Rattle.gnb_types.specs.declared.names.Dir.{Dir}
use Rattle.gnb_types.specs.declared.keys.TunnelEnd.{TunnelEnd}
use Rattle.gnb_types.specs.declared.keys.EntityKey.{EntityKey}
use Rattle.gnb_types.specs.Orders.{tunnel_cmp}
use Rattle.tables.specs.Tables.{find, put, without, at, first_entry, entry_after}
use Rattle.transport_defs.specs.declared.Item.{Item}
use Rattle.links.specs.declared.links_bag.error.LinkError.TheVariants as errors
use Rattle.links.specs.links_bag.Answers.{Answer, gives, refuses}

abbrev pub tunnel_end : NodeId → ℕ → TunnelEnd
tunnel_end node teid = record { node = node; teid = teid }

abbrev pub entity : UeId → BearerId → Dir → EntityKey
entity ue bearer dir = record { ue = ue; bearer = bearer; dir = dir }

-- the open tunnels, and which of them may lose items
pub record OpenTunnels (L : Type 0) : Type 0 where
  pub tunnels : List (TunnelEnd × List (Item L))
  pub lossy : List (TunnelEnd × Bool)

module _ {L : Type 0} where
  abbrev pub no_tunnels : OpenTunnels L
  no_tunnels = record { tunnels = []; lossy = [] }

  -- an item is put at the end; where the tunnel isn't open it is gone
  abbrev pub put_on : List (TunnelEnd × List (Item L)) → TunnelEnd → Item L → Option (List (Item L)) → List (TunnelEnd × List (Item L))
  put_on tunnels end item None = tunnels
  put_on tunnels end item (Some items) = put tunnel_cmp tunnels end (items ++ item ∷ [])

  unfoldable pub put_item : OpenTunnels L → TunnelEnd → Item L → OpenTunnels L
  put_item t end item = record t { tunnels = put_on t.tunnels end item (find tunnel_cmp t.tunnels end) }

  -- the oldest item is looked at, taken, or lost
  abbrev pub head_in : OpenTunnels L → Option (List (Item L)) → Answer (Item L) (OpenTunnels L)
  head_in t None = refuses errors.NoSuch
  head_in t (Some []) = refuses errors.Empty
  head_in t (Some (item ∷ items)) = gives item t

  unfoldable pub head : OpenTunnels L → TunnelEnd → Answer (Item L) (OpenTunnels L)
  head t end = head_in t (find tunnel_cmp t.tunnels end)

  abbrev pub get_in : OpenTunnels L → TunnelEnd → Option (List (Item L)) → Answer (Item L) (OpenTunnels L)
  get_in t end None = refuses errors.NoSuch
  get_in t end (Some []) = refuses errors.Empty
  get_in t end (Some (item ∷ items)) = gives item (record t { tunnels = put tunnel_cmp t.tunnels end items })

  unfoldable pub get : OpenTunnels L → TunnelEnd → Answer (Item L) (OpenTunnels L)
  get t end = get_in t end (find tunnel_cmp t.tunnels end)

  abbrev pub lose_in : OpenTunnels L → TunnelEnd → Option (List (Item L)) → Answer (Item L) (OpenTunnels L)
  lose_in t end None = refuses errors.NoSuch
  lose_in t end (Some items) = if at tunnel_cmp false t.lossy end then get t end else refuses errors.NotAllowed

  unfoldable pub lose : OpenTunnels L → TunnelEnd → Answer (Item L) (OpenTunnels L)
  lose t end = lose_in t end (find tunnel_cmp t.tunnels end)

  -- a tunnel is made, without items, and closed, with what stands on it
  abbrev pub made : OpenTunnels L → TunnelEnd → Bool → OpenTunnels L
  made t end lossy = record { tunnels = put tunnel_cmp t.tunnels end []; lossy = put tunnel_cmp t.lossy end lossy }

  -- a tunnel that is open stays as it is
  unfoldable pub opened : OpenTunnels L → TunnelEnd → Bool → OpenTunnels L
  opened t end lossy = record {
    tunnels = put tunnel_cmp t.tunnels end (at tunnel_cmp [] t.tunnels end);
    lossy = if is_some (find tunnel_cmp t.tunnels end) then t.lossy else put tunnel_cmp t.lossy end lossy;
  }

  abbrev pub closed : OpenTunnels L → TunnelEnd → OpenTunnels L
  closed t end = record { tunnels = without tunnel_cmp t.tunnels end; lossy = without tunnel_cmp t.lossy end }

  -- the first tunnel after a place, in the order of node and TEID
  abbrev pub next_entry : List (TunnelEnd × List (Item L)) → Option (NodeId × ℕ) → Option (TunnelEnd × List (Item L))
  next_entry tunnels None = first_entry tunnels
  next_entry tunnels (Some place) = entry_after tunnel_cmp tunnels (tunnel_end place.0 place.1)

abbrev pub place_in : {X : Type 0} → Option (TunnelEnd × X) → Option (NodeId × ℕ)
place_in None = None
place_in (Some e) = Some (e.0.node, e.0.teid)
