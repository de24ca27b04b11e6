-- What nothing confirmed, seen from outside.
use Rattle.std.proofs.Common.{◌≡◌, ℕ, ◌+◌, ◌-◌, ◌^◌, ◌<◌, nat_le, List, [], ◌∷◌, Some, None, subst, arith}
use Rattle.std.specs.Prelude.{IsSome, find as find_first}
use Rattle.std.specs.Option.{option_map}
use Rattle.std.specs.List.{AllByRecursion}
use Rattle.gnb_types.specs.declared.names.SnBits.{SnBits}
use Rattle.gnb_types.specs.declared.keys.EntityKey.{EntityKey}
use Rattle.tables.specs.Tables.{map_values}
use Rattle.pdcp_defs.specs.pool_defs.Pools.{PoolState, packet_at}
use Rattle.pdcp_entities.specs.Packets.{octets_at, octets_in}
use Rattle.pdcp_entities.specs.Entities.{TxState, sender_in}
use Rattle.pdcp_bearers.specs.ue_bearers.Senders.{SenderState, from_on, IsPacket}
use Rattle.pdcp_bearers.specs.ue_bearers.inside.Views.{IsSender, sender_state}
use Rattle.pdcp_bearers.proofs.ue_bearers.DownLemmas.{octets_are}
use Rattle.pdcp_bearers.proofs.ue_bearers.UpLemmas.{found_all, least_from, none_from}

mapped_all : (f : ℕ → List ℕ) (es : List (ℕ × ℕ)) → AllByRecursion (λ x. IsPacket x.1) (map_values f es) → AllByRecursion (λ x. IsPacket (f x.1)) es
unfolding map_values
mapped_all f [] all = tt
mapped_all f (e ∷ es) all = (all.0, mapped_all f es all.1)

module _ (sn : SnBits) (limit : ℕ) (key : EntityKey) (held : ℕ) (p : PoolState) (tx : TxState) (waiting : List (List ℕ)) (old : IsSender sn limit key held p tx waiting)
    (d : SenderState) (seen : sender_state sn limit p tx waiting ≡ d) (from : ℕ) where
  pub none_seen : find_first (λ x. nat_le from x.0) tx.sender.unconfirmed ≡ None → from_on from d.sender.unconfirmed ≡ []
  unfolding sender_in octets_in
  none_seen none =
      subst (λ (e : SenderState). from_on from e.sender.unconfirmed ≡ []) seen (none_from (octets_at p) from tx.sender.unconfirmed none)

  module _ (e : ℕ × ℕ) (is : find_first (λ x. nat_le from x.0) tx.sender.unconfirmed ≡ Some e) where
    pub parked_seen : IsSome (packet_at p e.1)
    parked_seen = found_all (λ x. IsSome (packet_at p x.1)) from tx.sender.unconfirmed e old.parked.there is

    pub least_seen : (bytes : List ℕ) → option_map (λ packet. packet.bytes) (packet_at p e.1) ≡ Some bytes
        → (from_on from d.sender.unconfirmed ≡ (e.0, bytes) ∷ from_on (e.0 + 1) d.sender.unconfirmed) × IsPacket bytes × (e.0 < 2 ^ 32 - 1)
    unfolding sender_in octets_in
    least_seen bytes bytes_are =
        let f = octets_at p in
        let es = tx.sender.unconfirmed in
        let same : f e.1 ≡ bytes = octets_are (packet_at p e.1) bytes bytes_are in
        let below : e.0 < tx.sender.next = found_all (λ x. x.0 < tx.sender.next) from es e old.below is in
        let fits = old.fits in
        let packet : IsPacket (f e.1) = found_all (λ x. IsPacket (f x.1)) from es e (mapped_all f es old.packets) is in (
          subst (λ (u : SenderState). from_on from u.sender.unconfirmed ≡ (e.0, bytes) ∷ from_on (e.0 + 1) u.sender.unconfirmed) seen
              (subst (λ (b : List ℕ). from_on from (map_values f es) ≡ (e.0, b) ∷ from_on (e.0 + 1) (map_values f es)) same (least_from f from es e old.ascending is)),
          subst (λ (b : List ℕ). IsPacket b) same packet,
          omega (arith, below, fits),
        )
