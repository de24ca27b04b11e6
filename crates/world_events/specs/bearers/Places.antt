-- Internal: the CU-UP that polls a bearer, and the tunnel on which the core puts a packet, or why there is none.
use Rattle.std.specs.Prelude.{ℕ, List, length, nat_lt, Option, Some, None, Result, Ok, Err, if◌then◌else◌}
use Rattle.gnb_types.specs.declared.names.NodeId.{NodeId}
use Rattle.gnb_types.specs.declared.names.NodeId.TheVariants.{CuUp, Ue}
use Rattle.gnb_types.specs.declared.names.UeId.{UeId}
use Rattle.gnb_types.specs.declared.names.BearerId.{BearerId}
use Rattle.gnb_types.specs.declared.names.Dir.TheVariants.{Dl, Ul}
use Rattle.gnb_types.specs.declared.keys.TunnelEnd.{TunnelEnd}
use Rattle.gnb_types.specs.declared.reasons.RefuseReason.{RefuseReason}
use Rattle.gnb_types.specs.declared.reasons.RefuseReason.TheVariants.{NoBearer, NoPath, Size, Empty}
use Rattle.gnb_types.specs.Orders.{ue_cmp}
use Rattle.tables.specs.Tables.{find}
use Rattle.unit_defs.specs.Messages.{teid_of}
use Rattle.unit_defs.specs.Core.{CorePath}
use Rattle.unit_defs.specs.Ue.{largest_packet}
use Rattle.unit_defs.specs.Accessors.{is_unconfirmed}
use Rattle.run_defs.specs.Units.{cu_up_of}
use Rattle.link_defs.specs.Layouts.{forwarded_fresh}
use Rattle.transport_defs.specs.declared.Item.{Item}
use Rattle.run_defs.specs.States.{has_bearer, entity, offer_for, ◌next◌, goes_on}
use Rattle.run_defs.specs.Steps.{check_spans, put_on_tunnel, does}
use Rattle.run_defs.specs.Conditions.{serving_gnb, serving_place}
use Rattle.run_defs.specs.Events.{offered}
use Rattle.run_links.specs.Networks.{Octets, OctetCore, OctetWorld, OctetState, OctetWithin}
use Rattle.world_steps.specs.Moves.{OctetDone}

-- the CU-UP of the serving context, where a downlink packet is unconfirmed
abbrev pub poll_at : OctetState → UeId → BearerId → Option (ℕ × ℕ) → Result NodeId RefuseReason
poll_at s ue bearer None = Err Empty
poll_at s ue bearer (Some place) =
    if is_unconfirmed (cu_up_of s.units (serving_gnb s ue) place.0) ue bearer then Ok (CuUp (serving_gnb s ue) place.0) else Err Empty

abbrev pub poll_node : OctetState → UeId → BearerId → Result NodeId RefuseReason
poll_node s ue bearer = if has_bearer s ue bearer then poll_at s ue bearer (serving_place s ue) else Err NoBearer

-- the N3 tunnel of the bearer, on the path that the core has of the terminal
abbrev pub path_end : BearerId → List ℕ → Option CorePath → Result TunnelEnd RefuseReason
path_end bearer packet None = Err NoPath
path_end bearer packet (Some path) =
    if nat_lt largest_packet (length packet) then Err Size else Ok (record { node = path.up; teid = teid_of path.n3 bearer })

abbrev pub core_end : OctetCore → UeId → BearerId → List ℕ → Result TunnelEnd RefuseReason
core_end core ue bearer packet = path_end bearer packet (find ue_cmp core.paths ue)

-- ---- a packet that is offered

-- as the core puts it on a tunnel
abbrev pub downlink_item : UeId → BearerId → ℕ → List ℕ → Item Octets
downlink_item ue bearer teid packet = record { key = entity ue bearer Dl; count = None; content = forwarded_fresh teid packet }

-- the core puts an item on a tunnel
abbrev pub core_puts : OctetWorld → TunnelEnd → Item Octets → OctetState → OctetWithin
core_puts world end item s = put_on_tunnel world end item (offered world item.key s) next check_spans

-- a terminal takes a packet
abbrev pub offer_done : OctetWorld → UeId → BearerId → List ℕ → OctetState → OctetDone
offer_done world ue bearer packet s =
    does world (Ue ue.0) (offer_for ue bearer packet) None (λ t. goes_on (offered world (entity ue bearer Ul) t)) s
