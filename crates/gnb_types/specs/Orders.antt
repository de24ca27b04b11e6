-- The orders by which tables are walked, each that of its type's `Ord`.
pub use Rattle.gnb_types.specs.Nodes.{node_cmp}
use Rattle.std.specs.declared.cmp.Ordering.{Ordering}
use Rattle.gnb_types.specs.declared.names.UeId.{UeId}
use Rattle.gnb_types.specs.declared.names.BearerId.{BearerId}
use Rattle.gnb_types.specs.declared.names.Dir.{Dir}
use Rattle.gnb_types.specs.declared.keys.Channel.{Channel}
use Rattle.gnb_types.specs.declared.keys.TunnelEnd.{TunnelEnd}
use Rattle.gnb_types.specs.declared.keys.EntityKey.{EntityKey}
use Rattle.gnb_types.specs.contracts.names.UeIdOrd.TheImpl as ue
use Rattle.gnb_types.specs.contracts.names.BearerIdOrd.TheImpl as bearer
use Rattle.gnb_types.specs.contracts.names.DirOrd.TheImpl as dir
use Rattle.gnb_types.specs.contracts.keys.ChannelOrd.TheImpl as channel
use Rattle.gnb_types.specs.contracts.keys.TunnelEndOrd.TheImpl as tunnel
use Rattle.gnb_types.specs.contracts.keys.EntityKeyOrd.TheImpl as entity

abbrev pub ue_cmp : UeId → UeId → Ordering
ue_cmp = (ue.cmp-value).it

abbrev pub bearer_cmp : BearerId → BearerId → Ordering
bearer_cmp = (bearer.cmp-value).it

-- downlink before uplink
abbrev pub dir_cmp : Dir → Dir → Ordering
dir_cmp = (dir.cmp-value).it

-- by terminal, then by peer
abbrev pub channel_cmp : Channel → Channel → Ordering
channel_cmp = (channel.cmp-value).it

-- by node, then by TEID
abbrev pub tunnel_cmp : TunnelEnd → TunnelEnd → Ordering
tunnel_cmp = (tunnel.cmp-value).it

-- by terminal, then by bearer, then by direction
abbrev pub entity_cmp : EntityKey → EntityKey → Ordering
entity_cmp = (entity.cmp-value).it
