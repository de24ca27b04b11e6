-- The orders of keys are total, and tell all keys apart.
pub use Rattle.gnb_types.specs.NodeOrder.{node_total, node_exact}
use Rattle.std.specs.Prelude.{◌≡◌, ℕ, refl}
use Rattle.std.proofs.Common.{ap}
use Rattle.std.specs.declared.cmp.Ordering.{Ordering}
use Rattle.std.specs.declared.cmp.Ordering.TheVariants.{Equal}
use Rattle.std.specs.Ordering.{nat_cmp, ordering_then}
use Rattle.std.specs.Cmp.{IsTotalOrder}
use Rattle.std.proofs.lemmas.Map.Lookups.{exact_unsigned, exact_pairs}
use Rattle.gnb_types.specs.declared.names.NodeId.{NodeId}
use Rattle.gnb_types.specs.declared.names.UeId.{UeId}
use Rattle.gnb_types.specs.declared.names.BearerId.{BearerId}
use Rattle.gnb_types.specs.declared.names.Dir.{Dir}
use Rattle.gnb_types.specs.declared.names.Dir.TheVariants.{Dl, Ul}
use Rattle.gnb_types.specs.declared.keys.Channel.{Channel}
use Rattle.gnb_types.specs.declared.keys.TunnelEnd.{TunnelEnd}
use Rattle.gnb_types.specs.declared.keys.EntityKey.{EntityKey}
use Rattle.gnb_types.specs.contracts.names.UeIdOrd.TheImpl.Laws as ue
use Rattle.gnb_types.specs.contracts.names.BearerIdOrd.TheImpl.Laws as bearer
use Rattle.gnb_types.specs.contracts.names.DirOrd.TheImpl.Laws as dir
use Rattle.gnb_types.specs.contracts.keys.ChannelOrd.TheImpl.Laws as channel
use Rattle.gnb_types.specs.contracts.keys.TunnelEndOrd.TheImpl.Laws as tunnel
use Rattle.gnb_types.specs.contracts.keys.EntityKeyOrd.TheImpl.Laws as entity
use Rattle.gnb_types.specs.Orders.{node_cmp, ue_cmp, bearer_cmp, dir_cmp, channel_cmp, tunnel_cmp, entity_cmp}

pub ue_total : IsTotalOrder ue_cmp
ue_total = ue.total-law

pub bearer_total : IsTotalOrder bearer_cmp
bearer_total = bearer.total-law

pub dir_total : IsTotalOrder dir_cmp
dir_total = dir.total-law

pub channel_total : IsTotalOrder channel_cmp
channel_total = channel.total-law

pub tunnel_total : IsTotalOrder tunnel_cmp
tunnel_total = tunnel.total-law

pub entity_total : IsTotalOrder entity_cmp
entity_total = entity.total-law

pub ue_exact : (a b : UeId) → ue_cmp a b ≡ Equal → a ≡ b
ue_exact a b e = ap (λ (n : ℕ). record { 0 = n }) (exact_unsigned a.0 b.0 e)

pub bearer_exact : (a b : BearerId) → bearer_cmp a b ≡ Equal → a ≡ b
bearer_exact a b e = ap (λ (n : ℕ). record { 0 = n }) (exact_unsigned a.0 b.0 e)

pub dir_exact : (a b : Dir) → dir_cmp a b ≡ Equal → a ≡ b
dir_exact Dl Dl e = refl
dir_exact Ul Ul e = refl
dir_exact _ _ e = absurd cc

pub channel_exact : (a b : Channel) → channel_cmp a b ≡ Equal → a ≡ b
channel_exact a b e =
    ap (λ (p : ℕ × NodeId). record { ue = p.0; peer = p.1 })
    (exact_pairs nat_cmp node_cmp exact_unsigned node_exact (a.ue, a.peer) (b.ue, b.peer) e)

pub tunnel_exact : (a b : TunnelEnd) → tunnel_cmp a b ≡ Equal → a ≡ b
tunnel_exact a b e =
    ap (λ (p : NodeId × ℕ). record { node = p.0; teid = p.1 })
    (exact_pairs node_cmp nat_cmp node_exact exact_unsigned (a.node, a.teid) (b.node, b.teid) e)

-- a bearer and a direction
abbrev pair_cmp : BearerId × Dir → BearerId × Dir → Ordering
pair_cmp a b = ordering_then (bearer_cmp a.0 b.0) (dir_cmp a.1 b.1)

pub entity_exact : (a b : EntityKey) → entity_cmp a b ≡ Equal → a ≡ b
entity_exact a b e =
    ap (λ (p : UeId × (BearerId × Dir)). record { ue = p.0; bearer = p.1.0; dir = p.1.1 })
    (exact_pairs ue_cmp pair_cmp ue_exact (exact_pairs bearer_cmp dir_cmp bearer_exact dir_exact)
    (a.ue, (a.bearer, a.dir)) (b.ue, (b.bearer, b.dir)) e)
