-- What the answers to control say of the bearers of a context, and the tunnels that are opened for them.
use Rattle.std.specs.Prelude.{ℕ, List, Option}
use Rattle.std.specs.List.{flat_map}
use Rattle.gnb_types.specs.declared.names.UeId.{UeId}
use Rattle.gnb_types.specs.declared.plans.Tunnel.{Tunnel}
use Rattle.unit_defs.specs.Messages.{tunnel_of}
use Rattle.unit_defs.specs.CuUpRecords.{CuUpBearer, CuUpContext, CuUpTunnel}
use Rattle.unit_defs.specs.CuUp.{first_uplink}
use Rattle.unit_defs.specs.octet_defs.Codec.{Codec, octet_way}
use Rattle.cu_up_items.specs.items.Items.{kind_as}
use Rattle.cu_up_items.specs.declared.items.items.Kind.{Kind}
use Rattle.cu_up_items.specs.declared.items.items.Kind.TheVariants.{N3, F1uUplink, ForwardingDown, ForwardingUp}
use Rattle.cu_up_contexts.specs.declared.bearer_context.answers.Opening.{Opening}

-- the tunnel of a kind that a bearer of a new context has, if any
abbrev pub teid_of_kind : Codec → Kind → CuUpBearer → Option ℕ
teid_of_kind codec N3 b = b.n3
teid_of_kind codec F1uUplink b = first_uplink (octet_way codec) b.uplinks
teid_of_kind codec ForwardingDown b = b.forward_down
teid_of_kind codec ForwardingUp b = b.forward_up

abbrev pub tunnels_of : Codec → Kind → CuUpContext → List Tunnel
tunnels_of codec kind c = flat_map (λ e. tunnel_of e.0 (teid_of_kind codec kind e.1)) c.bearers

-- whose an opened tunnel is
abbrev pub entry_as : UeId → ℕ → Opening → ℕ × CuUpTunnel
entry_as ue context o = (o.teid, record { ue = ue; bearer = o.bearer; kind = kind_as o.kind; context = context })
